use Rattle.std.proofs.Common.{◌≡◌}
use Rattle.core_tree.specs.Types as spec
use Rattle.core_tree.proofs.whole_types.same_type.Given as goal

abbrev pub invariant-loop-one : goal.invariant-loop-one
invariant-loop-one l = spec.same l.left l.right ≡ spec.same l.one l.other
