-- The scalars of a variable at the start, one by one.
use Rattle.std.specs.Prelude.{Option, Some, None}
use Rattle.core_tree.specs.declared.program.Initial.{Initial}
use Rattle.core_tree.specs.declared.types.Slot.{Slot}
use Rattle.c_values.specs.declared.value.Cell.{Cell}
use Rattle.c_values.specs.declared.value.Value.TheVariants.{Undefined}
use Rattle.c_meaning.specs.After.{initial_value}

-- a scalar, with its initial value if it has one
abbrev pub initial_cell : Slot → Option Initial → Cell
initial_cell s None = record { offset = s.offset; kind = s.kind; value = Undefined }
initial_cell s (Some i) = record { offset = s.offset; kind = s.kind; value = initial_value s.kind i }
