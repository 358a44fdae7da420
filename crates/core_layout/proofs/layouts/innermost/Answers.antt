use Rattle.std.proofs.Common.{rules}
use Rattle.core_tree.specs.Layout.{layouts, layout}
use Rattle.core_layout.proofs.Laying.{array_in, counted}
use Rattle.core_layout.proofs.layouts.innermost.Goals as goal

pub loop-inner-preserved : goal.loop-inner-preserved
loop-inner-preserved c =
    array_in (layouts c.args._structs.now) c.loop-inner.inner.now c.get-inner.result.now c.loop-inner.count c.in-Array.more
    c.in_ok-count-in-Array.count
    (layout c.args._structs.now c.args.ty.now) (rw c.get-inner.ensures c.in-Array.is)
    (counted c.loop-inner.count c.in-Array.more _ _ _ _ c.from.ensures c.from-in-Array.ensures c.saturating_mul.ensures
    c.in_ok-count-in-Array.ensures (search rules))
    c.loop-inner.invariant
