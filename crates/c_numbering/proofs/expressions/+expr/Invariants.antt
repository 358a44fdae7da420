use Rattle.std.proofs.Common.{◌≡◌, ◌++◌, drop, map}
use Rattle.c_checking.specs.Numbering as spec
use Rattle.c_numbering.proofs.expressions.+expr.Given as goal

abbrev pub invariant-exprs_numbered-loop-expr : goal.invariant-exprs_numbered-loop-expr
invariant-exprs_numbered-loop-expr l = record {
  made : (spec.each (map spec.expr_numbered l.all) l.fn.next).0
      ≡ l.made ++ (spec.each (map spec.expr_numbered (drop l.expr-index l.all)) l.next).0;
  next : (spec.each (map spec.expr_numbered l.all) l.fn.next).1
      ≡ (spec.each (map spec.expr_numbered (drop l.expr-index l.all)) l.next).1;
}
