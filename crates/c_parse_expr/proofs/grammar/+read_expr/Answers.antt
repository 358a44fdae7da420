use Rattle.std.proofs.Common.{add-one, ap, arith}
use Rattle.c_parse_expr.specs.Reading.{expr}
use Rattle.c_parse_expr.proofs.Turns.{deeper, refused}
use Rattle.c_parse_expr.proofs.grammar.+read_expr.Goals as goal

pub returns-then-depth-eq0 : goal.returns-then-depth-eq0
unfolding expr
returns-then-depth-eq0 t c = refused c.refuse.result _ (ap (λ n. expr n c.args.least c.args.tokens.now) c.if-depth-eq0.true)

pub returns : goal.returns
unfolding expr
returns t c = rw (deeper (λ n. expr n c.args.least c.args.tokens.now) c.args.depth (omega arith)) (rw add-one at c.tree.ensures)
