use Rattle.std.proofs.Common.{◌≡◌, ◌^◌, ◌-◌, min, take, length, sum_by}
use Rattle.world.proofs.draft.capped_values.Given as goal

abbrev pub invariant-loop-line : goal.invariant-loop-line
invariant-loop-line l = l.total ≡ min (sum_by (λ s. length s.values) (take l.line-index l.lines)) (2 ^ 64 - 1)
