use Rattle.std.proofs.Common.{◌≡◌, ◌++◌, map, drop}
use Rattle.core_tree.specs.Layout.{layout}
use Rattle.core_layout.specs.Laid.{layout_of}
use Rattle.report_state.proofs.places.push_row.Given as goal

abbrev pub invariant-loop-ty : goal.invariant-loop-ty
invariant-loop-ty l =
    map layout_of l.fn.row ++ map (layout l.structs) l.types
    ≡ map layout_of l.row ++ map (layout l.structs) (drop l.ty-index l.types)
