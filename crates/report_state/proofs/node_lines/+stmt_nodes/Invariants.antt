use Rattle.std.proofs.Common.{◌≡◌, ◌++◌, map, drop}
use Rattle.report_state.specs.NodeLines.{joined, stmt_nodes, group_nodes}
use Rattle.report_state.proofs.node_lines.+stmt_nodes.Given as goal

abbrev pub invariant-push_stmts-loop-stmt : goal.invariant-push_stmts-loop-stmt
invariant-push_stmts-loop-stmt l =
    l.fn.nodes ++ joined (map stmt_nodes l.all) ≡ l.nodes ++ joined (map stmt_nodes (drop l.stmt-index l.all))

abbrev pub invariant-push_groups-loop-group : goal.invariant-push_groups-loop-group
invariant-push_groups-loop-group l =
    l.fn.nodes ++ joined (map group_nodes l.groups) ≡ l.nodes ++ joined (map group_nodes (drop l.group-index l.groups))
