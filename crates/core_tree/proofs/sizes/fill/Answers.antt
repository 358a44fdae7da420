use Rattle.std.proofs.Common.{arith}
use Rattle.core_tree.proofs.Extents.{fill_turn, fill_end}
use Rattle.core_tree.proofs.sizes.fill.Goals as goal

pub loop-at-preserved : goal.loop-at-preserved
loop-at-preserved c =
    fill_turn _ _ _ _ _ (omega arith) (omega arith) c.index-structs-at.is c.loop-at.invariant c.struct_extent.ensures

pub returns : goal.returns
returns c = fill_end _ _ c.loop-at.at (omega arith) (omega arith) (omega arith) c.loop-at.invariant
