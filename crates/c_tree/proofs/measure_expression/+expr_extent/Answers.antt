use Rattle.std.proofs.Common.{ap, arith, max}
use Rattle.std.proofs.lemmas.Grind.{common_steps}
use Rattle.c_tree.specs.Measure.{expr_measure, expr_kind_measure, sum}
use Rattle.c_tree.proofs.ExprMeasures.{measure-Call}
use Rattle.c_tree.proofs.Sums.{sum_more, max_more}
use Rattle.c_tree.proofs.measure_expression.+expr_extent.Goals as goal

pub expr_extent-returns-in-Call-clause-nodes : goal.expr_extent-returns-in-Call-clause-nodes
expr_extent-returns-in-Call-clause-nodes t c =
    grind (arith, common_steps, ap (expr_kind_measure sum) c.in-Call.is, measure-Call sum c.in-Call.callee c.in-Call.arguments)

pub expr_extent-returns-in-Call-clause-height : goal.expr_extent-returns-in-Call-clause-height
expr_extent-returns-in-Call-clause-height t c =
    grind (arith, common_steps, ap (expr_kind_measure max) c.in-Call.is, measure-Call max c.in-Call.callee c.in-Call.arguments)

pub exprs_extent-loop-expr-preserved : goal.exprs_extent-loop-expr-preserved
exprs_extent-loop-expr-preserved t c = record {
  nodes = omega (
    arith,
    sum_more (expr_measure sum) c.args.all.now c.loop-expr.expr-index c.expr-item.result c.loop-expr-test.true,
    ap (expr_measure sum) c.expr-item.is,
  );
  height = omega (
    arith,
    max_more (expr_measure max) c.args.all.now c.loop-expr.expr-index c.expr-item.result c.loop-expr-test.true,
    ap (expr_measure max) c.expr-item.is,
  );
}
