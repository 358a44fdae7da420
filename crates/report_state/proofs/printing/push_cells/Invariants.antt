use Rattle.std.proofs.Common.{◌≡◌, ◌++◌, map, drop}
use Rattle.c_values.specs.declared.value.Cell.{Cell}
use Rattle.report_state.specs.StateText.{object_values}
use Rattle.report_state.proofs.printing.push_cells.Given as goal

abbrev pub invariant-loop-cell : goal.invariant-loop-cell
invariant-loop-cell l =
    l.fn.values ++ object_values l.object ≡ l.values ++ map (λ (c : Cell). c.value) (drop l.cell-index l.object.cells)
