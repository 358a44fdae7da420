use Rattle.std.proofs.Common.{◌≡◌, ◌++◌, map, take, drop}
use Rattle.c_values.specs.Objects.{cleared_cell}
use Rattle.c_values.proofs.cells.clear_all.Given as goal

abbrev pub invariant-loop-i : goal.invariant-loop-i
invariant-loop-i l = l.cells ≡ map cleared_cell (take l.i l.fn.cells) ++ drop l.i l.fn.cells
