use Rattle.std.proofs.Common.{ap, arith}
use Rattle.c_parse_stmt.specs.StatementReading.{statement}
use Rattle.c_parse_expr.proofs.Turns.{deeper, refused}
use Rattle.c_parse_stmt.proofs.statements.+statement.Goals as goal

pub returns-then-depth-eq0 : goal.returns-then-depth-eq0
unfolding statement
returns-then-depth-eq0 t c = refused c.refuse.result _ (ap (λ n. statement n c.args.breaks c.args.continues c.args.tokens.now) c.if-depth-eq0.true)

pub returns : goal.returns
unfolding statement
returns t c = rw (deeper (λ n. statement n c.args.breaks c.args.continues c.args.tokens.now) c.args.depth (omega arith)) c.formed.ensures
