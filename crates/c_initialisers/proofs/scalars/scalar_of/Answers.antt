use Rattle.c_checking.specs.Initialisers.{leaves, leaves_in}
use Rattle.c_initialisers.specs.Scalars.{before}
use Rattle.c_initialisers.proofs.Counting.{first, leads_on, scalar_ends}
use Rattle.c_initialisers.proofs.scalars.scalar_of.Goals as goal

pub returns-in-Num-clause-answered : goal.returns-in-Num-clause-answered
returns-in-Num-clause-answered c =
    scalar_ends (leaves c.args.structs.now c.args.ty.now) (before c.args.structs.now c.loop-flat.bound) c.in_ok-flat.flat.now
    c.in-Some.total c.args.at c.args.outer c.in_ok-flat.there c.alone.result c.in-Num.is
    (leads_on (leaves c.args.structs.now c.args.ty.now)
    (leaves_in (before c.args.structs.now c.loop-flat.bound) c.loop-flat.inner.now)
    (leaves_in (before c.args.structs.now c.loop-flat.bound) c.in_ok-flat.flat.now)
    (first c.in-Some.total c.args.at c.args.outer) c.loop-flat.spot c.in_ok-flat.there c.loop-flat.invariant c.in_ok-flat.ensures)
    c.alone.ensures
