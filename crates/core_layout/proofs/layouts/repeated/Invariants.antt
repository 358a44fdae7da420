use Rattle.std.proofs.Common.{◌≡◌, ◌++◌, ◌-◌}
use Rattle.core_tree.specs.Layout as spec
use Rattle.core_layout.specs.Laid.{layout_of}
use Rattle.core_layout.proofs.layouts.repeated.Given as goal

abbrev pub invariant-loop-copy : goal.invariant-loop-copy
invariant-loop-copy l = spec.copies l.count 0 (layout_of l.of)
    ≡ l.slots ++ spec.copies (l.count - l._copy) l.at (layout_of l.of)
