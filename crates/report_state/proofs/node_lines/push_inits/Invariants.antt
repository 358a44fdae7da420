use Rattle.std.proofs.Common.{◌≡◌, ◌++◌, map, drop}
use Rattle.report_state.specs.NodeLines.{joined, init_nodes}
use Rattle.report_state.proofs.node_lines.push_inits.Given as goal

abbrev pub invariant-loop-init : goal.invariant-loop-init
invariant-loop-init l =
    l.fn.nodes ++ joined (map init_nodes l.inits) ≡ l.nodes ++ joined (map init_nodes (drop l.init-index l.inits))
