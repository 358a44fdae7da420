use Rattle.std.proofs.Common.{◌≡◌, ◌-◌, ◌≤◌, drop}
use Rattle.ir.specs.Machine as spec
use Rattle.ir_steps.proofs.stamps.stamp_in.Given as goal

abbrev pub invariant-loop-at : goal.invariant-loop-at
invariant-loop-at l = (l.at ≤ l.number)
    × (spec.stamp_in 0 l.variables l.number l.offset ≡ spec.stamp_in l.before (drop l.at l.variables) (l.number - l.at) l.offset)
