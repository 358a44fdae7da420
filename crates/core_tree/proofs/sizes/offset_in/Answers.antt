use Rattle.core_tree.proofs.Extents.{offset_here}
use Rattle.core_tree.proofs.sizes.offset_in.Goals as goal

pub returns-then-member-members : goal.returns-then-member-members
returns-then-member-members c =
    offset_here _ _ _ _ _ _ _ c.if-member-members.true c.extent_in-here.ensures c.members_extent.ensures c.aligned.ensures
