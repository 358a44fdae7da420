use Rattle.std.proofs.Common.{ap, arith}
use Rattle.std.proofs.lemmas.Grind.{common_steps}
use Rattle.report_state.specs.NodeLines.{below_kind}
use Rattle.report_state.proofs.Lines.{below-Block, below-Declare, below-Group, below-Expires}
use Rattle.report_state.proofs.node_lines.+stmt_nodes.Goals as goal

pub push_stmt-returns-in-Block : goal.push_stmt-returns-in-Block
push_stmt-returns-in-Block t c = grind (arith, common_steps, ap below_kind c.in-Block.is, below-Block c.in-Block.all)

pub push_stmt-returns-in_ok-push_stmts-in-Expires : goal.push_stmt-returns-in_ok-push_stmts-in-Expires
push_stmt-returns-in_ok-push_stmts-in-Expires t c =
    grind (arith, common_steps, ap below_kind c.in-Expires.is, below-Expires c.in-Expires.names c.in-Expires.body c.in-Expires.«catch»)

pub push_stmt-returns-in-Declare : goal.push_stmt-returns-in-Declare
push_stmt-returns-in-Declare t c =
    grind (arith, common_steps, ap below_kind c.in-Declare.is, below-Declare c.in-Declare.local c.in-Declare.init)

pub push_group-returns : goal.push_group-returns
push_group-returns t c = grind (arith, common_steps, below-Group c.args.group.now)
