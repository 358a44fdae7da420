-- Stamps: which one a timed scalar has. The timed scalars are numbered in order of declaration and address.
use Rattle.std.specs.Prelude.{ℕ, zero, suc, ◌+◌, nat_eq, if◌then◌else◌, List, [], ◌∷◌, length, Option, Some, None}
use Rattle.core_tree.specs.declared.program.Core.{Core}
use Rattle.core_tree.specs.declared.program.Global.{Global}
use Rattle.core_tree.specs.declared.types.Struct.{Struct}
use Rattle.core_tree.specs.declared.types.Slot.{Slot}
use Rattle.core_tree.specs.Layout.{layout}
use Rattle.c_values.specs.declared.value.Location.{Location}
use Rattle.c_run.specs.declared.timed.Timed.{Timed}

abbrev pub slots_of : List Struct → Global → List Slot
slots_of structs g = (layout structs g.ty).slots

abbrev pub stamps_if : List Struct → Global → Option ℕ → ℕ
stamps_if structs g None = 0
stamps_if structs g (Some lifetime) = length (slots_of structs g)

-- how many stamps a variable has
abbrev pub stamps_of : List Struct → Global → ℕ
stamps_of structs g = stamps_if structs g g.lifetime

abbrev pub place_in : ℕ → List Slot → ℕ
place_in offset [] = 0
place_in offset (s ∷ ss) = if nat_eq s.offset offset then 0 else place_in offset ss + 1

abbrev pub lifetime_or : ℕ → Option ℕ → ℕ
lifetime_or n None = n
lifetime_or n (Some t) = t

-- the timed scalar at an offset of a variable, with the number of stamps before
abbrev pub timed_in : List Struct → ℕ → List Global → ℕ → ℕ → Timed
timed_in structs before [] n offset = record { stamp = before; lifetime = 0 }
timed_in structs before (g ∷ gs) zero offset =
    record { stamp = before + place_in offset (slots_of structs g); lifetime = lifetime_or 0 g.lifetime }
timed_in structs before (g ∷ gs) (suc n) offset = timed_in structs (before + stamps_of structs g) gs n offset

abbrev pub timed_object : Core → ℕ → Option ℕ → Timed
timed_object core offset None = record { stamp = 0; lifetime = 0 }
timed_object core offset (Some n) = timed_in core.structs 0 core.globals n offset

abbrev pub timed_at : Core → Location → Timed
timed_at core l = timed_object core l.offset l.object
