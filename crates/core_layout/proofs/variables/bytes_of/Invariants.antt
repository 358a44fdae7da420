use Rattle.std.proofs.Common.{◌≡◌, ◌%◌, map, take}
use Rattle.core_tree.specs.Layout as layout
use Rattle.core_layout.specs.Laid.{layout_of}
use Rattle.core_layout.proofs.variables.bytes_of.Given as goal

abbrev pub invariant-loop-next : goal.invariant-loop-next
invariant-loop-next l = l.bytes ≡ (layout.with_members layout.nothing (take l.next-index (map layout_of l.all))).size % 65536
