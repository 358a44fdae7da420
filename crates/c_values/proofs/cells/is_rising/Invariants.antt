use Rattle.std.proofs.Common.{◌≡◌, ◌≤◌, drop}
use Rattle.c_values.specs.Ordered.{rises_from}
use Rattle.c_values.proofs.cells.is_rising.Given as goal

abbrev pub invariant-loop-cell : goal.invariant-loop-cell
invariant-loop-cell l = record {
  rest : rises_from 0 l.cells ≡ rises_from l.low (drop l.cell-index l.cells);
  low : l.low ≤ 65536;
}
