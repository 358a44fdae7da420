use Rattle.std.proofs.Common.{◌≡◌, take, map}
use Rattle.core_tree.specs.Costs.{capped_cost, each, expr_rows}
use Rattle.core_tree.specs.Heights.{capped, expr_height, tallest_from}
use Rattle.core_tree.specs.Nodes.{expr_nodes, total}
use Rattle.core_tree.proofs.measure_expressions.+expr_measure.Given as goal

abbrev pub invariant-args_measure-loop-arg : goal.invariant-args_measure-loop-arg
invariant-args_measure-loop-arg l = record {
  before : l.before ≡ capped l.arg-index;
  height : l.sum.height ≡ capped (tallest_from 0 (map expr_height (take l.arg-index l.args)));
  cost : l.sum.cost ≡ capped_cost (total (map (expr_rows each) (take l.arg-index l.args)));
  nodes : l.sum.nodes ≡ capped_cost (total (map expr_nodes (take l.arg-index l.args)));
}
