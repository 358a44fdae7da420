use Rattle.c_checking.specs.Initialisers.{leaves, leaves_in}
use Rattle.c_initialisers.specs.Scalars.{before, Leads}
use Rattle.c_initialisers.proofs.Counting.{first}
use Rattle.c_initialisers.proofs.scalars.scalar_of.Given as goal

abbrev pub invariant-loop-flat : goal.invariant-loop-flat
invariant-loop-flat l =
    Leads (leaves l.structs l.ty) (first l.total l.fn.at l.outer) (leaves_in (before l.structs l.bound) l.inner) l.spot

abbrev pub decreases-loop-flat : goal.decreases-loop-flat
decreases-loop-flat l = l.bound
