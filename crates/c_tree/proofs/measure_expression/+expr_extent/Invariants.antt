use Rattle.std.proofs.Common.{◌≡◌, max, take}
use Rattle.c_tree.specs.Measure as spec
use Rattle.c_tree.proofs.measure_expression.+expr_extent.Given as goal

abbrev pub invariant-exprs_extent-loop-expr : goal.invariant-exprs_extent-loop-expr
invariant-exprs_extent-loop-expr l = record {
  nodes : l.sum.nodes ≡ spec.capped (spec.all spec.sum (spec.expr_measure spec.sum) (take l.expr-index l.all));
  height : l.sum.height ≡ spec.capped (spec.all max (spec.expr_measure max) (take l.expr-index l.all));
}
