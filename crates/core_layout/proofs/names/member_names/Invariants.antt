use Rattle.std.proofs.Common.{◌≡◌, take}
use Rattle.core_tree.specs.Data as spec
use Rattle.core_layout.proofs.names.member_names.Given as goal

abbrev pub invariant-loop-member : goal.invariant-loop-member
invariant-loop-member l = l.all ≡ spec.member_names (spec.struct_names l._structs) (take l.member-index l.members)
