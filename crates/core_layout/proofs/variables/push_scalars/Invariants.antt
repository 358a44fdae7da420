use Rattle.std.proofs.Common.{◌≡◌, ◌++◌, drop}
use Rattle.core_tree.specs.Data as spec
use Rattle.core_layout.proofs.variables.push_scalars.Given as goal

abbrev pub invariant-loop-index : goal.invariant-loop-index
invariant-loop-index l =
    l.fn.into ++ spec.scalars_at l.variable l.at l.stamp l.slots l.names
    ≡ l.into ++ spec.scalars_at l.variable l.at l.here (drop l.index l.slots) (drop l.index l.names)
