use Rattle.std.proofs.Common.{refl}
use Rattle.core_tree.proofs.Extents.{struct_turn}
use Rattle.core_tree.proofs.sizes.members_extent.Goals as goal

pub loop-member-preserved : goal.loop-member-preserved
loop-member-preserved c =
    struct_turn _ _ _ _ _ _ _ _ refl c.loop-member-test.true c.member-item.is c.loop-member.invariant
    c.extent_in.ensures c.with-sum.ensures.size c.with-sum.ensures.even
