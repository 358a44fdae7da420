use Rattle.std.proofs.Common.{◌≡◌, ◌++◌, map, drop}
use Rattle.report_state.specs.NodeLines.{joined, function_nodes}
use Rattle.report_state.proofs.node_lines.core_nodes.Given as goal

abbrev pub invariant-loop-function : goal.invariant-loop-function
invariant-loop-function l =
    joined (map function_nodes l.core.functions) ≡ l.nodes ++ joined (map function_nodes (drop l.function-index l.core.functions))
