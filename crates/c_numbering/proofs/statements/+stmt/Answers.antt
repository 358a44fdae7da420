use Rattle.std.proofs.Common.{arith}
use Rattle.std.proofs.lemmas.Grind.{common_steps}
use Rattle.c_numbering.proofs.StmtParts.{block_made, expires_made, expires_next, group_made, group_next}
use Rattle.c_numbering.proofs.statements.+stmt.Goals as goal

pub stmt_numbered-returns-in_ok-all-in-Block-clause-made : goal.stmt_numbered-returns-in_ok-all-in-Block-clause-made
stmt_numbered-returns-in_ok-all-in-Block-clause-made t c =
    grind (arith, common_steps, block_made c.args.stmt.now c.in-Block.all c.args.next.now c.in-Block.is)

pub stmt_numbered-returns-in_ok-catch-in-Expires-clause-made : goal.stmt_numbered-returns-in_ok-catch-in-Expires-clause-made
stmt_numbered-returns-in_ok-catch-in-Expires-clause-made t c =
    grind (arith, common_steps, expires_made c.args.stmt.now c.in-Expires.names c.in-Expires.body c.in-Expires.catch c.args.next.now c.in-Expires.is)

pub stmt_numbered-returns-in_ok-catch-in-Expires-clause-next : goal.stmt_numbered-returns-in_ok-catch-in-Expires-clause-next
stmt_numbered-returns-in_ok-catch-in-Expires-clause-next t c =
    grind (arith, common_steps, expires_next c.args.stmt.now c.in-Expires.names c.in-Expires.body c.in-Expires.catch c.args.next.now c.in-Expires.is)

pub group_numbered-returns-clause-made : goal.group_numbered-returns-clause-made
group_numbered-returns-clause-made t c = grind (arith, common_steps, group_made c.args.group.now c.args.next.now)

pub group_numbered-returns-clause-next : goal.group_numbered-returns-clause-next
group_numbered-returns-clause-next t c = grind (arith, common_steps, group_next c.args.group.now c.args.next.now)
