use Rattle.std.proofs.Common.{arith}
use Rattle.std.proofs.lemmas.Grind.{common_steps}
use Rattle.c_numbering.proofs.ListParts.{call_made}
use Rattle.c_numbering.proofs.expressions.+expr.Goals as goal

pub expr_numbered-returns-in_ok-args-in-Call-clause-made : goal.expr_numbered-returns-in_ok-args-in-Call-clause-made
expr_numbered-returns-in_ok-args-in-Call-clause-made t c =
    grind (arith, common_steps, call_made c.args.expr.now c.in-Call.function c.in-Call.args c.args.next.now c.in-Call.is)
