use Rattle.std.proofs.Common.{◌≡◌, ◌*◌, length}
use Rattle.c_checking.specs.Initialisers.{leaves_in}
use Rattle.c_initialisers.specs.Scalars.{before}
use Rattle.c_initialisers.proofs.scalars.count_of.Given as goal

abbrev pub invariant-loop-inner : goal.invariant-loop-inner
invariant-loop-inner l =
    l.count * length (leaves_in (before l._structs (length l.known)) l.inner)
    ≡ length (leaves_in (before l._structs (length l.known)) l.ty)
