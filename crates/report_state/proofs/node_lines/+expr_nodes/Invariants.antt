use Rattle.std.proofs.Common.{◌≡◌, ◌++◌, map, drop}
use Rattle.report_state.specs.NodeLines.{joined, expr_nodes}
use Rattle.report_state.proofs.node_lines.+expr_nodes.Given as goal

abbrev pub invariant-push_args-loop-arg : goal.invariant-push_args-loop-arg
invariant-push_args-loop-arg l =
    l.fn.nodes ++ joined (map expr_nodes l.args) ≡ l.nodes ++ joined (map expr_nodes (drop l.arg-index l.args))
