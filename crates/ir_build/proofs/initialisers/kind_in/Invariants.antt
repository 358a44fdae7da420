use Rattle.std.proofs.Common.{◌≡◌, drop}
use Rattle.ir_gen.specs.Body as spec
use Rattle.ir_build.proofs.initialisers.kind_in.Given as goal

abbrev pub invariant-loop-slot : goal.invariant-loop-slot
invariant-loop-slot l = spec.kind_in l.offset l.slots ≡ spec.kind_in l.offset (drop l.slot-index l.slots)
