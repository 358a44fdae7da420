use Rattle.std.proofs.Common.{◌≡◌, length}
use Rattle.c_initialisers.specs.Scalars.{IsCounted}
use Rattle.c_initialisers.proofs.scalars.structs_counted.Given as goal

abbrev pub invariant-loop-of : goal.invariant-loop-of
invariant-loop-of l = IsCounted l.known l.structs × (length l.known ≡ l.of-index)
