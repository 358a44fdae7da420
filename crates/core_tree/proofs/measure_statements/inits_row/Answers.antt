use Rattle.std.proofs.Common.{ap, arith}
use Rattle.core_tree.specs.Costs.{init_row}
use Rattle.core_tree.proofs.Sums.{total_more}
use Rattle.core_tree.proofs.measure_statements.inits_row.Goals as goal

pub loop-init-preserved : goal.loop-init-preserved
loop-init-preserved c = omega (arith, total_more init_row c.args.inits.now c.loop-init.init-index c.init-item.result c.loop-init-test.true, ap init_row c.init-item.is)
