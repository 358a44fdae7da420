use Rattle.std.proofs.Common.{◌≡◌}
use Rattle.core_tree.specs.Lawful as spec
use Rattle.c_conversions.proofs.types.is_local_path.Given as goal

abbrev pub invariant-loop-inner : goal.invariant-loop-inner
invariant-loop-inner l = spec.is_local_path l.place.kind ≡ spec.is_local_path l.inner.kind
