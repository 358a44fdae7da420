-- One scalar of the start state.
use Rattle.std.specs.Prelude.{Option, Some, None}
use Rattle.core_tree.specs.declared.types.Slot.{Slot}
use Rattle.c_values.specs.declared.value.Value.{Value}
use Rattle.c_values.specs.declared.value.Value.TheVariants.{Undefined}
use Rattle.c_values.specs.declared.value.Cell.{Cell}

-- a scalar, with its initial value if it has one
abbrev pub initial_cell : Slot → Option Value → Cell
initial_cell s None = record { offset = s.offset; kind = s.kind; value = Undefined }
initial_cell s (Some v) = record { offset = s.offset; kind = s.kind; value = v }
