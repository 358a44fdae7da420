use Rattle.std.proofs.Common.{◌≡◌, drop}
use Rattle.c_checking.specs.Calls as spec
use Rattle.c_calls.proofs.expressions.+expr.Given as goal

abbrev pub invariant-in_exprs-loop-expr : goal.invariant-in_exprs-loop-expr
invariant-in_exprs-loop-expr l = spec.in_exprs l.names l.all ≡ spec.in_exprs l.names (drop l.expr-index l.all)
