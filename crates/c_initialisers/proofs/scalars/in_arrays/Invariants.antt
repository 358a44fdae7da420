use Rattle.c_checking.specs.Initialisers.{leaves_in}
use Rattle.c_initialisers.specs.Scalars.{before, Leads}
use Rattle.c_initialisers.proofs.scalars.in_arrays.Given as goal

abbrev pub invariant-loop-inner : goal.invariant-loop-inner
invariant-loop-inner l =
    Leads (leaves_in (before l._structs l._bound) l.ty) l.fn.spot (leaves_in (before l._structs l._bound) l.inner) l.at
