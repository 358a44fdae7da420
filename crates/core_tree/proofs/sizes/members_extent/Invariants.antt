use Rattle.std.proofs.Common.{◌≡◌, take}
use Rattle.core_tree.specs.Extents.{told}
use Rattle.core_tree.specs.Layout as spec
use Rattle.core_tree.proofs.sizes.members_extent.Given as goal

abbrev pub invariant-loop-member : goal.invariant-loop-member
invariant-loop-member l = l.sum ≡ told (spec.with_members spec.nothing (spec.member_layouts (spec.layouts l.before) (take l.member-index l.members)))
