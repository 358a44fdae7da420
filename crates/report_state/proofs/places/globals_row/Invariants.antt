use Rattle.std.proofs.Common.{◌≡◌, ◌++◌, map, drop}
use Rattle.core_tree.specs.Data.{global_layouts}
use Rattle.core_layout.specs.Laid.{layout_of}
use Rattle.report_state.proofs.places.globals_row.Given as goal

abbrev pub invariant-loop-variable : goal.invariant-loop-variable
invariant-loop-variable l =
    global_layouts l.core l.variables
    ≡ map layout_of l.row ++ global_layouts l.core (drop l.variable-index l.variables)
