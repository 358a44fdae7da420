use Rattle.std.proofs.Common.{◌≡◌, drop}
use Rattle.report_state.specs.NodeLines.{line_in}
use Rattle.report_state.proofs.node_lines.line_in.Given as goal

abbrev pub invariant-loop-node : goal.invariant-loop-node
invariant-loop-node l = line_in l.number l.nodes ≡ line_in l.number (drop l.node-index l.nodes)
