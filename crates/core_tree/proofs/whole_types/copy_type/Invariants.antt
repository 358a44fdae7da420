use Rattle.std.proofs.Common.{◌≡◌, length}
use Rattle.core_tree.specs.Types as spec
use Rattle.core_tree.proofs.whole_types.copy_type.Given as goal

abbrev pub invariant-loop-level : goal.invariant-loop-level
invariant-loop-level l = spec.wrapped_in l.levels l.made ≡ l.fn.ty

abbrev pub decreases-loop-level : goal.decreases-loop-level
decreases-loop-level l = length l.levels
