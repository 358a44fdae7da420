use Rattle.std.proofs.Common.{◌≡◌, ◌++◌, map, take, drop}
use Rattle.c_values.specs.Objects.{put_cell}
use Rattle.c_values.proofs.cells.put_walking.Given as goal

abbrev pub invariant-loop-i : goal.invariant-loop-i
invariant-loop-i l = l.cells ≡ map (put_cell l.offset l.value) (take l.i l.fn.cells) ++ drop l.i l.fn.cells
