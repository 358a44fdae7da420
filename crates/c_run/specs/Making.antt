-- Objects that come to life.
use Rattle.std.specs.Prelude.{ℕ, ◌+◌, List, [], ◌∷◌, map}
use Rattle.core_tree.specs.declared.types.Slot.{Slot}
use Rattle.c_values.specs.declared.value.Value.TheVariants.{Undefined}
use Rattle.c_values.specs.declared.value.Cell.{Cell}
use Rattle.c_values.specs.declared.state.Object.{Object}

abbrev pub fresh_cell : Slot → Cell
fresh_cell slot = record { offset = slot.offset; kind = slot.kind; value = Undefined }

abbrev pub fresh_object : ℕ → List Slot → Object
fresh_object n slots = record { number = n; cells = map fresh_cell slots }

-- objects that come to life one after the other, the first with a number
abbrev pub fresh_objects : ℕ → List (List Slot) → List Object
fresh_objects n [] = []
fresh_objects n (slots ∷ more) = fresh_object n slots ∷ fresh_objects (n + 1) more
