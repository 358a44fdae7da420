use Rattle.std.proofs.Common.{◌≡◌, take}
use Rattle.core_tree.specs.Layout as spec
use Rattle.core_layout.specs.Laid.{layout_of}
use Rattle.core_layout.proofs.layouts.members_laid.Given as goal

abbrev pub invariant-loop-member : goal.invariant-loop-member
invariant-loop-member l =
    layout_of l.sum
    ≡ spec.with_members spec.nothing (spec.member_layouts (spec.layouts l._structs) (take l.member-index l.members))
