use Rattle.std.proofs.Common.{◌≡◌, drop}
use Rattle.c_values.specs.Objects.{find_cell}
use Rattle.c_values.proofs.cells.walk_to.Given as goal

abbrev pub invariant-loop-cell : goal.invariant-loop-cell
invariant-loop-cell l = find_cell l.offset l.cells ≡ find_cell l.offset (drop l.cell-index l.cells)
