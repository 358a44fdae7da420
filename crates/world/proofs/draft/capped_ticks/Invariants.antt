use Rattle.std.proofs.Common.{◌≡◌, ◌*◌, ◌^◌, ◌-◌, min, take, sum_by}
use Rattle.world.proofs.draft.capped_ticks.Given as goal

abbrev pub invariant-loop-line : goal.invariant-loop-line
invariant-loop-line l = l.total ≡ min (sum_by (λ c. c.ticks * c.count) (take l.line-index l.lines)) (2 ^ 64 - 1)
