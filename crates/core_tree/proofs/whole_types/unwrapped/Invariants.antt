use Rattle.std.proofs.Common.{◌≡◌}
use Rattle.core_tree.specs.Types as spec
use Rattle.core_tree.proofs.whole_types.unwrapped.Given as goal

abbrev pub invariant-loop-inner : goal.invariant-loop-inner
invariant-loop-inner l = spec.wrapped_in l.levels l.inner ≡ l.ty
