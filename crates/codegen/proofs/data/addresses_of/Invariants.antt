use Rattle.std.proofs.Common.{◌≡◌, ◌++◌, map, drop}
use Rattle.core_layout.specs.Laid.{layout_of}
use Rattle.codegen.specs.Standing.{addresses_behind}
use Rattle.codegen.proofs.data.addresses_of.Given as goal

abbrev pub invariant-loop-next : goal.invariant-loop-next
invariant-loop-next l =
    addresses_behind 0 (map layout_of l.laid) ≡ l.all ++ addresses_behind l.bytes (map layout_of (drop l.next-index l.laid))
