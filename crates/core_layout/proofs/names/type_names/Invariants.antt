use Rattle.std.proofs.Common.{◌≡◌}
use Rattle.core_tree.specs.Data as spec
use Rattle.core_layout.specs.Prefixes.{behind_prefix}
use Rattle.core_layout.proofs.names.type_names.Given as goal

abbrev pub invariant-loop-inner : goal.invariant-loop-inner
invariant-loop-inner l = behind_prefix l.prefix (spec.names l._structs l.inner) ≡ spec.names l._structs l.ty
