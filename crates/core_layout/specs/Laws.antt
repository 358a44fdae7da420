-- What holds of the scalars of every type: they lie inside it, none overlaps another, and each stands at its alignment.
use Rattle.std.specs.Prelude.{◌≡◌, ℕ, ◌+◌, ◌%◌, ◌≤◌, List, [], ◌∷◌}
use Rattle.base16.specs.declared.image.Kind.{Kind}
use Rattle.base16.specs.declared.image.Kind.TheVariants as kind
use Rattle.core_tree.specs.declared.types.Slot.{Slot}
use Rattle.core_tree.specs.declared.types.Struct.{Struct}
use Rattle.core_tree.specs.declared.types.Ty.{Ty}
use Rattle.core_tree.specs.Layout.{layout, size_of}
use Rattle.core_tree.specs.LawfulCore.{Every}

-- the bytes of a scalar
abbrev pub width : Kind → ℕ
width kind.Char = 1
width kind.Int = 2
width kind.UInt = 2
width kind.Pointer = 2

-- the offset behind a scalar
abbrev pub end_of : Slot → ℕ
end_of s = s.offset + width s.kind

-- each scalar ends before any later one begins
abbrev pub Rise : List Slot → Type 0
Rise [] = Unit {0}
Rise (s ∷ later) = Every (λ next. end_of s ≤ next.offset) later × Rise later

-- every scalar of a type ends inside it
abbrev pub SlotsFit : List Struct → Ty → Type 0
SlotsFit structs t = Every (λ s. end_of s ≤ size_of structs t) (layout structs t).slots

-- no two scalars of a type overlap, and they stand in order
abbrev pub SlotsRise : List Struct → Ty → Type 0
SlotsRise structs t = Rise (layout structs t).slots

-- a scalar of two bytes stands at an even offset
abbrev pub SlotsAligned : List Struct → Ty → Type 0
SlotsAligned structs t = Every (λ s. s.offset % width s.kind ≡ 0) (layout structs t).slots

-- the size of a type with a scalar of two bytes is even, so that in a row of them each stands at its alignment
abbrev pub SizeIsEven : List Struct → Ty → Type 0
SizeIsEven structs t = Every (λ s. width s.kind ≡ 2 → size_of structs t % 2 ≡ 0) (layout structs t).slots
