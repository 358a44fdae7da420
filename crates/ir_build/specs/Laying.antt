-- Objects from their layouts, one behind the other.
use Rattle.std.specs.Prelude.{ℕ, ◌+◌, List, [], ◌∷◌, map}
use Rattle.base16.specs.Board.{data_start}
use Rattle.core_tree.specs.declared.program.Global.{Global}
use Rattle.core_tree.specs.declared.types.Slot.{Slot}
use Rattle.core_tree.specs.declared.types.Struct.{Struct}
use Rattle.core_tree.specs.Layout.{Layout, aligned, layout}
use Rattle.core_tree.specs.Data.{told_address}
use Rattle.ir.specs.declared.form.IrGlobal.{IrGlobal}
use Rattle.ir.specs.declared.form.IrLocal.{IrLocal}
use Rattle.ir_gen.specs.Form.{initial_values}

-- the scalars of objects
abbrev pub slots_in : List Layout → List (List Slot)
slots_in row = map (λ (l : Layout). l.slots) row

-- the first stands behind so many bytes of others
abbrev pub placed_from : ℕ → List Layout → List IrLocal
placed_from bytes [] = []
placed_from bytes (l ∷ ls) =
    record { offset = aligned l.even bytes; scalars = l.slots } ∷ placed_from (aligned l.even bytes + l.size) ls

abbrev pub variable_at : List Struct → ℕ → Global → IrGlobal
variable_at structs start g = record {
  address = told_address (data_start + start);
  scalars = (layout structs g.ty).slots;
  init = initial_values (layout structs g.ty).slots g.init;
  lifetime = g.lifetime;
}

abbrev pub variables_from : List Struct → ℕ → List Global → List IrGlobal
variables_from structs bytes [] = []
variables_from structs bytes (g ∷ gs) =
    variable_at structs (aligned (layout structs g.ty).even bytes) g
    ∷ variables_from structs (aligned (layout structs g.ty).even bytes + (layout structs g.ty).size) gs
