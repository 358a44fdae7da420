use Rattle.c_parse_expr.proofs.WholeExpression.{spelled, low, only}
use Rattle.c_parse_expr.proofs.whole.parse_expression.Goals as goal

pub returns-clause-spelled : goal.returns-clause-spelled
returns-clause-spelled c = spelled c.args.tokens.now c.whole.result c.whole.ensures

pub returns-clause-low : goal.returns-clause-low
returns-clause-low c = low c.args.tokens.now c.whole.result c.whole.ensures

pub returns-clause-only : goal.returns-clause-only
returns-clause-only c = only c.args.tokens.now c.whole.result c.whole.ensures
