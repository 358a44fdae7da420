use Rattle.std.proofs.Common.{◌≡◌, ◌++◌, map, take}
use Rattle.core_tree.specs.Layout as spec
use Rattle.core_layout.proofs.layouts.push_moved.Given as goal

abbrev pub invariant-loop-slot : goal.invariant-loop-slot
invariant-loop-slot l = l.into ≡ l.fn.into ++ map (spec.moved_by l.by) (take l.slot-index l.slots)
