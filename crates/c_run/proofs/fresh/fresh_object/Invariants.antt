use Rattle.std.proofs.Common.{◌≡◌, map, take}
use Rattle.c_run.specs.Making.{fresh_cell}
use Rattle.c_run.proofs.fresh.fresh_object.Given as goal

abbrev pub invariant-loop-slot : goal.invariant-loop-slot
invariant-loop-slot l = l.cells.items ≡ map fresh_cell (take l.slot-index l.slots)
