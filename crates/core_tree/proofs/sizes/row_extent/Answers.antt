use Rattle.core_tree.proofs.Extents.{row_turn}
use Rattle.core_tree.proofs.sizes.row_extent.Goals as goal

pub loop-ty-preserved : goal.loop-ty-preserved
loop-ty-preserved c =
    row_turn _ c.args._before.now _ _ _ _ _ _ c.loop-ty-test.true c.ty-item.is c.loop-ty.invariant c.extent_in.ensures c.with-sum.ensures.size c.with-sum.ensures.even
