use Rattle.std.proofs.Common.{◌≡◌, take, map}
use Rattle.core_tree.specs.Costs.{capped_cost, each, init_rows}
use Rattle.core_tree.specs.Heights.{capped, init_height, tallest}
use Rattle.core_tree.specs.Nodes.{init_nodes, total}
use Rattle.core_tree.proofs.measure_statements.inits_measure.Given as goal

abbrev pub invariant-loop-init : goal.invariant-loop-init
invariant-loop-init l = record {
  height : l.sum.height ≡ capped (tallest (map init_height (take l.init-index l.inits)));
  cost : l.sum.cost ≡ capped_cost (total (map (init_rows each) (take l.init-index l.inits)));
  nodes : l.sum.nodes ≡ capped_cost (total (map init_nodes (take l.init-index l.inits)));
}
