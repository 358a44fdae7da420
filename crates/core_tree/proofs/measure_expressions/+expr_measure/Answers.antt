use Rattle.std.proofs.Common.{ap, arith}
use Rattle.std.proofs.lemmas.Grind.{common_steps}
use Rattle.std.proofs.lemmas.List.{length-map}
use Rattle.core_tree.specs.declared.expressions.ExprKind.{ExprKind}
use Rattle.core_tree.specs.Costs.{each, expr_rows, expr_kind_rows}
use Rattle.core_tree.specs.Heights.{expr_height}
use Rattle.core_tree.specs.Nodes.{expr_nodes, expr_kind_nodes}
use Rattle.core_tree.proofs.Calls.{rows-Call, nodes-Call}
use Rattle.core_tree.proofs.Sums.{total_more, held_more}
use Rattle.core_tree.proofs.measure_expressions.+expr_measure.Goals as goal

pub expr_measure-returns-in-Call-clause-cost : goal.expr_measure-returns-in-Call-clause-cost
expr_measure-returns-in-Call-clause-cost t c = grind (
  arith,
  common_steps,
  ap (λ (x : ExprKind). expr_kind_rows each x c.args.expr.now.node) c.in-Call.is,
  rows-Call c.in-Call.function c.in-Call.args c.args.expr.now.node,
  length-map c.in-Call.args (expr_rows each),
)

pub expr_measure-returns-in-Call-clause-nodes : goal.expr_measure-returns-in-Call-clause-nodes
expr_measure-returns-in-Call-clause-nodes t c = grind (arith, common_steps, ap expr_kind_nodes c.in-Call.is, nodes-Call c.in-Call.function c.in-Call.args)

pub args_measure-loop-arg-preserved : goal.args_measure-loop-arg-preserved
args_measure-loop-arg-preserved t c = record {
  before = omega arith;
  height = omega (arith, held_more expr_height c.args.args.now c.loop-arg.arg-index c.arg-item.result c.loop-arg-test.true, ap expr_height c.arg-item.is);
  cost = omega (arith, total_more (expr_rows each) c.args.args.now c.loop-arg.arg-index c.arg-item.result c.loop-arg-test.true, ap (expr_rows each) c.arg-item.is);
  nodes = omega (arith, total_more expr_nodes c.args.args.now c.loop-arg.arg-index c.arg-item.result c.loop-arg-test.true, ap expr_nodes c.arg-item.is);
}
