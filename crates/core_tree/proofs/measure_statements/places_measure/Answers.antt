use Rattle.std.proofs.Common.{ap, arith}
use Rattle.core_tree.specs.Costs.{each, place_rows}
use Rattle.core_tree.specs.Heights.{place_height}
use Rattle.core_tree.specs.Nodes.{place_nodes}
use Rattle.core_tree.proofs.Sums.{total_more, tallest_more}
use Rattle.core_tree.proofs.measure_statements.places_measure.Goals as goal

pub loop-place-preserved : goal.loop-place-preserved
loop-place-preserved c = record {
  height = omega (arith, tallest_more place_height c.args.places.now c.loop-place.place-index c.place-item.result c.loop-place-test.true, ap place_height c.place-item.is);
  cost = omega (arith, total_more (place_rows each) c.args.places.now c.loop-place.place-index c.place-item.result c.loop-place-test.true, ap (place_rows each) c.place-item.is);
  nodes = omega (arith, total_more place_nodes c.args.places.now c.loop-place.place-index c.place-item.result c.loop-place-test.true, ap place_nodes c.place-item.is);
}
