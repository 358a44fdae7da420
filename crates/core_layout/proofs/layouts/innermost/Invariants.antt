use Rattle.std.proofs.Common.{◌≡◌}
use Rattle.core_tree.specs.Layout as spec
use Rattle.core_layout.specs.Laid.{array}
use Rattle.core_layout.proofs.layouts.innermost.Given as goal

abbrev pub invariant-loop-inner : goal.invariant-loop-inner
invariant-loop-inner l = array l.count (spec.layout l._structs l.inner) ≡ spec.layout l._structs l.ty
