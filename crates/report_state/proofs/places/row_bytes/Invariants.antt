use Rattle.std.proofs.Common.{◌≡◌, ◌<◌, ◌^◌, map, drop}
use Rattle.core_tree.specs.Layout as layout
use Rattle.core_layout.specs.Laid.{layout_of}
use Rattle.report_state.proofs.Rows.{bytes_behind}
use Rattle.report_state.proofs.places.row_bytes.Given as goal

abbrev pub invariant-loop-next : goal.invariant-loop-next
invariant-loop-next l = record {
  behind : (layout.with_members layout.nothing (map layout_of l.row)).size ≡ bytes_behind l.bytes (map layout_of (drop l.next-index l.row));
  low : l.bytes < 2 ^ 41;
}
