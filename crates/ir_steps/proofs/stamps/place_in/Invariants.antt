use Rattle.std.proofs.Common.{◌≡◌, ◌+◌, drop}
use Rattle.ir.specs.Machine.{place_in}
use Rattle.ir_steps.proofs.stamps.place_in.Given as goal

abbrev pub invariant-loop-at : goal.invariant-loop-at
invariant-loop-at l = place_in l.offset l.slots ≡ l.at + place_in l.offset (drop l.at l.slots)
