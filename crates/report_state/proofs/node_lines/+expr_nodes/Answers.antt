use Rattle.std.proofs.Common.{ap, arith}
use Rattle.std.proofs.lemmas.Grind.{common_steps}
use Rattle.report_state.specs.NodeLines.{below_expr}
use Rattle.report_state.proofs.Lines.{below-Call}
use Rattle.report_state.proofs.node_lines.+expr_nodes.Goals as goal

pub push_expr-returns-in-Call : goal.push_expr-returns-in-Call
push_expr-returns-in-Call t c = grind (arith, common_steps, ap below_expr c.in-Call.is, below-Call c.in-Call.function c.in-Call.args)
