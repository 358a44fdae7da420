use Rattle.std.proofs.Common.{ap, arith}
use Rattle.core_tree.specs.Costs.{each, grouped}
use Rattle.core_tree.specs.declared.statements.Group.{Group}
use Rattle.core_tree.proofs.StatementSums.{grouped-labels}
use Rattle.core_tree.proofs.Sums.{total_more}
use Rattle.core_tree.proofs.measure_statements.labels_of.Goals as goal

pub loop-group-preserved : goal.loop-group-preserved
loop-group-preserved c = omega (arith, total_more (λ (g : Group). (grouped each g).labels) c.args.groups.now c.loop-group.group-index c.group-item.result c.loop-group-test.true, ap (λ (g : Group). (grouped each g).labels) c.group-item.is, grouped-labels c.group-item.result)
