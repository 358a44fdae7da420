use Rattle.std.proofs.Common.{◌≡◌, take, map}
use Rattle.core_tree.specs.Costs.{capped_cost, each, function_rows}
use Rattle.core_tree.specs.Nodes.{function_nodes, total}
use Rattle.core_tree.proofs.totals.functions_measure.Given as goal

abbrev pub invariant-loop-function : goal.invariant-loop-function
invariant-loop-function l = record {
  cost : l.sum.cost ≡ capped_cost (total (map (function_rows each) (take l.function-index l.functions)));
  nodes : l.sum.nodes ≡ capped_cost (total (map function_nodes (take l.function-index l.functions)));
}
