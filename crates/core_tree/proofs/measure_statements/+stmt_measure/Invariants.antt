use Rattle.std.proofs.Common.{◌≡◌, take, map}
use Rattle.core_tree.specs.Costs.{capped_cost, each, grouped, stmt_rows}
use Rattle.core_tree.specs.Heights.{capped, group_height, stmt_height, tallest}
use Rattle.core_tree.specs.Nodes.{group_nodes, stmt_nodes, total}
use Rattle.core_tree.proofs.measure_statements.+stmt_measure.Given as goal

abbrev pub invariant-stmts_measure-loop-stmt : goal.invariant-stmts_measure-loop-stmt
invariant-stmts_measure-loop-stmt l = record {
  height : l.sum.height ≡ capped (tallest (map stmt_height (take l.stmt-index l.all)));
  cost : l.sum.cost ≡ capped_cost (total (map (λ s. stmt_rows each s l.inside) (take l.stmt-index l.all)));
  nodes : l.sum.nodes ≡ capped_cost (total (map stmt_nodes (take l.stmt-index l.all)));
}

abbrev pub invariant-groups_measure-loop-group : goal.invariant-groups_measure-loop-group
invariant-groups_measure-loop-group l = record {
  height : l.sum.height ≡ capped (tallest (map group_height (take l.group-index l.groups)));
  cost : l.sum.cost ≡ capped_cost (total (map (λ g. (grouped each g).rows l.inside) (take l.group-index l.groups)));
  nodes : l.sum.nodes ≡ capped_cost (total (map group_nodes (take l.group-index l.groups)));
}
