-- What is kept of a program to find addresses in its states.
use Rattle.std.specs.Prelude.{◌≡◌, map}
use Rattle.core_tree.specs.Data.{global_layouts}
use Rattle.core_layout.specs.Laid.{IsLaid, layout_of}
use Rattle.report_state.specs.declared.places.Places.{Places}

-- the layouts of its structs and of its variables
pub record IsPlaced (p : Places) : Type 0 where
  pub laid : IsLaid p.known p.core.now.structs
  pub row : map layout_of p.globals ≡ global_layouts p.core.now p.core.now.globals
