-- What is done to the scalars of an object: one is set, or all become undefined.
use Rattle.std.specs.Prelude.{ℕ, nat_eq, if◌then◌else◌, List, map}
use Rattle.c_values.specs.declared.value.Cell.{Cell}
use Rattle.c_values.specs.declared.state.Object.{Object}
use Rattle.c_values.specs.declared.state.Call.{Call}
use Rattle.c_values.specs.Objects.{put_cell, cleared_cell}
use Rattle.c_run.specs.declared.put.Change.{Change}
use Rattle.c_run.specs.declared.put.Change.TheVariants.{Put, Clear}

abbrev pub changed_cells : Change → List Cell → List Cell
changed_cells (Put offset v) cs = map (put_cell offset v) cs
changed_cells Clear cs = map cleared_cell cs

abbrev pub changed_object : ℕ → Change → Object → Object
changed_object n change o = if nat_eq o.number n then record o { cells = changed_cells change o.cells } else o

abbrev pub changed_call : ℕ → Change → Call → Call
changed_call n change c = record c { locals = map (changed_object n change) c.locals }
