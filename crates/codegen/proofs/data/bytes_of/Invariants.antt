use Rattle.std.proofs.Common.{◌≡◌, map, drop}
use Rattle.core_layout.specs.Laid.{layout_of}
use Rattle.codegen.specs.Standing.{bytes_behind}
use Rattle.codegen.proofs.data.bytes_of.Given as goal

abbrev pub invariant-loop-next : goal.invariant-loop-next
invariant-loop-next l =
    bytes_behind 0 (map layout_of l.laid) ≡ bytes_behind l.bytes (map layout_of (drop l.next-index l.laid))
