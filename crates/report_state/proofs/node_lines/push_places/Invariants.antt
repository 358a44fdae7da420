use Rattle.std.proofs.Common.{◌≡◌, ◌++◌, map, drop}
use Rattle.report_state.specs.NodeLines.{joined, place_nodes}
use Rattle.report_state.proofs.node_lines.push_places.Given as goal

abbrev pub invariant-loop-place : goal.invariant-loop-place
invariant-loop-place l =
    l.fn.nodes ++ joined (map place_nodes l.places) ≡ l.nodes ++ joined (map place_nodes (drop l.place-index l.places))
