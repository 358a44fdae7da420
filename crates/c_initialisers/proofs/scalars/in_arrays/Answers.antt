use Rattle.c_checking.specs.Initialisers.{leaves_in}
use Rattle.c_initialisers.specs.Scalars.{before}
use Rattle.c_initialisers.proofs.Counting.{leads_element}
use Rattle.c_initialisers.proofs.scalars.in_arrays.Goals as goal

pub loop-inner-preserved : goal.loop-inner-preserved
loop-inner-preserved c =
    leads_element (before c.args._structs.now c.args._bound) (leaves_in (before c.args._structs.now c.args._bound) c.args.ty.now)
    c.loop-inner.inner.now c.get-inner.result.now c.in-Array.count c.args.spot c.loop-inner.at c.in_ok-at-in-Array.at
    (rw c.get-inner.ensures c.in-Array.is) c.in_ok-at-in-Array.ensures.some c.in_ok-at-in-Array.ensures.spot c.loop-inner.invariant
