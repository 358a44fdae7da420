use Rattle.std.proofs.Common.{ap, arith}
use Rattle.core_tree.specs.Costs.{each, init_rows}
use Rattle.core_tree.specs.Heights.{init_height}
use Rattle.core_tree.specs.Nodes.{init_nodes}
use Rattle.core_tree.proofs.Sums.{total_more, tallest_more}
use Rattle.core_tree.proofs.measure_statements.inits_measure.Goals as goal

pub loop-init-preserved : goal.loop-init-preserved
loop-init-preserved c = record {
  height = omega (arith, tallest_more init_height c.args.inits.now c.loop-init.init-index c.init-item.result c.loop-init-test.true, ap init_height c.init-item.is);
  cost = omega (arith, total_more (init_rows each) c.args.inits.now c.loop-init.init-index c.init-item.result c.loop-init-test.true, ap (init_rows each) c.init-item.is);
  nodes = omega (arith, total_more init_nodes c.args.inits.now c.loop-init.init-index c.init-item.result c.loop-init-test.true, ap init_nodes c.init-item.is);
}
