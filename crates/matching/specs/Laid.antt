-- Where the objects of a state lie: objects that come to life as a program's run makes them share no byte.
use Rattle.std.specs.Prelude.{◌≡◌, ℕ, ◌+◌, ◌%◌, ◌≤◌, ◌⊎◌, List, [], ◌∷◌, map, length, slice_get, Option, Some, None}
use Rattle.base16.specs.Placement.{place}
use Rattle.base16.specs.declared.image.Kind.{Kind}
use Rattle.c_meaning.specs.After.{objects_of}
use Rattle.c_meaning.specs.Stamps.{slots_of}
use Rattle.c_values.specs.declared.state.Call.{Call}
use Rattle.c_values.specs.declared.state.Object.{Object}
use Rattle.c_values.specs.declared.state.Saved.{Saved}
use Rattle.c_values.specs.declared.value.Cell.{Cell as Scalar}
use Rattle.core_layout.specs.Laws.{width, end_of, Rise}
use Rattle.core_tree.specs.Heights.{frame_bytes}
use Rattle.core_tree.specs.LawfulCore.{Every}
use Rattle.core_tree.specs.declared.program.Core.{Core}
use Rattle.core_tree.specs.declared.program.Function.{Function}
use Rattle.core_tree.specs.declared.types.Slot.{Slot}
use Rattle.core_tree.specs.declared.types.Struct.{Struct}
use Rattle.matching.specs.Matches.{Placed}

-- ---- objects that share no byte

-- a scalar without its value
abbrev pub slot_of : Scalar → Slot
slot_of c = record { offset = c.offset; kind = c.kind }

abbrev pub slots_in : Placed → List Slot
slots_in p = map slot_of p.object.cells

-- each scalar of an object ends before an address
abbrev pub EndsBefore : (address : ℕ) → Placed → Type 0
EndsBefore address p = Every (λ s. p.address + end_of s ≤ address) (slots_in p)

-- one object ends before the other begins, and they have two numbers
pub record AreApart (p q : Placed) : Type 0 where
  pub numbers : p.object.number ≡ q.object.number → ⊥
  pub bytes : EndsBefore q.address p ⊎ EndsBefore p.address q

-- each scalar of an object ends before its next one begins, and no two objects share a byte
abbrev pub AreLaid : List Placed → Type 0
AreLaid [] = Unit {0}
AreLaid (p ∷ more) = Rise (slots_in p) × Every (AreApart p) more × AreLaid more

-- an object lies between two addresses
pub record LiesIn (low high : ℕ) (p : Placed) : Type 0 where
  pub from : low ≤ p.address
  pub to : EndsBefore high p

-- each scalar of two bytes stands at an even address
abbrev pub IsAligned : Placed → Type 0
IsAligned p = Every (λ s. width s.kind ≡ 2 → (p.address + s.offset) % 2 ≡ 0) (slots_in p)

-- a scalar of a kind stands at an offset
abbrev pub HasScalar : (offset : ℕ) → Kind → List Scalar → Type 0
HasScalar offset k [] = ⊥
HasScalar offset k (c ∷ more) = ((c.offset ≡ offset) × (c.kind ≡ k)) ⊎ HasScalar offset k more

-- the object n stands at an address and has a scalar of a kind at an offset
abbrev pub StandsAt : (n address offset : ℕ) → Kind → List Placed → Type 0
StandsAt n address offset k [] = ⊥
StandsAt n address offset k (p ∷ more) =
    ((p.object.number ≡ n) × (p.address ≡ address) × HasScalar offset k p.object.cells) ⊎ StandsAt n address offset k more

-- ---- objects as they come to life

-- objects with these scalars, whatever their values, numbered from the first on
abbrev pub AreMade : (first : ℕ) → List (List Slot) → List Object → Type 0
AreMade first [] [] = Unit {0}
AreMade first (slots ∷ more) (o ∷ objects) = (o.number ≡ first) × (map slot_of o.cells ≡ slots) × AreMade (first + 1) more objects
AreMade first _ _ = ⊥

-- a call of a function of the program, with its objects, whose numbers are not below one
pub record CallIsMade (core : Core) (low : ℕ) (c : Call) : Type 0 where
  pub function : Function
  pub is : slice_get core.functions c.function ≡ Some function
  pub first : ℕ
  pub above : low ≤ first
  pub objects : AreMade first (objects_of core.structs function) c.locals

-- calls, oldest first, whose objects have rising numbers up to below the next one
abbrev pub CallsAreMade : Core → (low next : ℕ) → List Call → Type 0
CallsAreMade core low next [] = low ≤ next
CallsAreMade core low next (c ∷ more) = (h : CallIsMade core low c) × CallsAreMade core (h.first + length c.locals) next more

-- the bytes of a call's frame, and 0 where there is no such function
abbrev pub bytes_by : List Struct → Option Function → ℕ
bytes_by structs None = 0
bytes_by structs (Some f) = frame_bytes structs f

abbrev pub bytes_of : Core → Call → ℕ
bytes_of core c = bytes_by core.structs (slice_get core.functions c.function)

-- The state's variables and calls are as the program's run makes them, and so many objects have come to life; the frames
-- stand where they are placed.
pub record IsMade (core : Core) (next : ℕ) (s : Saved) : Type 0 where
  pub globals : AreMade 0 (map (slots_of core.structs) core.globals) s.globals
  pub calls : CallsAreMade core (length core.globals) next s.calls
  pub frames : place (map (bytes_of core) s.calls) ≡ Some (map (λ (c : Call). c.frame) s.calls)
