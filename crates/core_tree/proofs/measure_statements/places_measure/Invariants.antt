use Rattle.std.proofs.Common.{◌≡◌, take, map}
use Rattle.core_tree.specs.Costs.{capped_cost, each, place_rows}
use Rattle.core_tree.specs.Heights.{capped, place_height, tallest}
use Rattle.core_tree.specs.Nodes.{place_nodes, total}
use Rattle.core_tree.proofs.measure_statements.places_measure.Given as goal

abbrev pub invariant-loop-place : goal.invariant-loop-place
invariant-loop-place l = record {
  height : l.sum.height ≡ capped (tallest (map place_height (take l.place-index l.places)));
  cost : l.sum.cost ≡ capped_cost (total (map (place_rows each) (take l.place-index l.places)));
  nodes : l.sum.nodes ≡ capped_cost (total (map place_nodes (take l.place-index l.places)));
}
