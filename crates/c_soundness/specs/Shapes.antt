-- What the values of a lawful program are: a value has the shape of its type, whatever number it is.
use Rattle.std.specs.Prelude.{ℕ, Bool, true, false, List, [], ◌∷◌, Option, Some, None}
use Rattle.base16.specs.declared.image.Kind.{Kind}
use Rattle.base16.specs.declared.image.Kind.TheVariants as kind
use Rattle.core_tree.specs.declared.types.Ty.{Ty, out-Ty}
use Rattle.core_tree.specs.declared.types.Ty.TheOpen.{Ty-F}
use Rattle.core_tree.specs.declared.program.Core.{Core}
use Rattle.core_tree.specs.LawfulCore.{IsObject}
use Rattle.c_values.specs.declared.value.Value.{Value}
use Rattle.c_values.specs.declared.value.Value.TheVariants.{Int, Pointer, Null, Undefined}
use Rattle.c_values.specs.declared.value.Location.{Location}

-- an integer, or a value that is missing
abbrev pub IsInteger : Value → Type 0
IsInteger (Int z) = Unit {0}
IsInteger (Pointer n offset) = ⊥
IsInteger Null = ⊥
IsInteger Undefined = Unit {0}

-- the null pointer, a value that is missing, or a pointer into an object, of which something holds
abbrev pub IsPointer : Type 0 → Value → Type 0
IsPointer Holds (Int z) = ⊥
IsPointer Holds (Pointer n offset) = Holds
IsPointer Holds Null = Unit {0}
IsPointer Holds Undefined = Unit {0}

-- only what an object may be is pointed to
abbrev pub HasLayer : Core → Ty-F Ty → Value → Type 0
HasLayer core Ty-F.Void v = IsInteger v
HasLayer core (Ty-F.Num t) v = IsInteger v
HasLayer core (Ty-F.Pointer to readonly) v = IsPointer (IsObject core to) v
HasLayer core (Ty-F.Array of count) v = IsInteger v
HasLayer core (Ty-F.Struct tag) v = IsInteger v

-- a value has the shape of a type
abbrev pub Has : Core → Ty → Value → Type 0
Has core t v = HasLayer core (out-Ty t) v

-- values have the shapes of types, one for each
abbrev pub HaveAll : Core → List Ty → List Value → Type 0
HaveAll core [] [] = Unit {0}
HaveAll core [] (v ∷ vs) = ⊥
HaveAll core (t ∷ ts) [] = ⊥
HaveAll core (t ∷ ts) (v ∷ vs) = Has core t v × HaveAll core ts vs

-- through the null pointer, or in an object, of which something holds
abbrev pub IsIn : Type 0 → Option ℕ → Type 0
IsIn Holds None = Unit {0}
IsIn Holds (Some n) = Holds

-- where a place of a type is: what lies in an object has a type that objects may have
abbrev pub IsAt : Core → Ty → Location → Type 0
IsAt core t l = IsIn (IsObject core t) l.object

-- ---- scalars

-- whether a kind is that of pointers
abbrev pub holds_pointer : Kind → Bool
holds_pointer kind.Char = false
holds_pointer kind.Int = false
holds_pointer kind.UInt = false
holds_pointer kind.Pointer = true

-- a value that a scalar may have: a pointer where pointers stand, an integer elsewhere, or none
abbrev pub MayStand : Bool → Value → Type 0
MayStand true v = IsPointer (Unit {0}) v
MayStand false v = IsInteger v
