use Rattle.std.proofs.Common.{◌≡◌, take, map}
use Rattle.core_tree.specs.Costs.{capped_cost, each, grouped}
use Rattle.core_tree.specs.Nodes.{total}
use Rattle.core_tree.proofs.measure_statements.labels_of.Given as goal

abbrev pub invariant-loop-group : goal.invariant-loop-group
invariant-loop-group l = l.sum ≡ capped_cost (total (map (λ g. (grouped each g).labels) (take l.group-index l.groups)))
