-- Temporaries are held: each temporary of a live call stands in its word of the call's frame.
use Rattle.std.specs.Prelude.{◌≡◌, ℕ, ◌+◌, ◌*◌, ◌≤◌, if◌then◌else◌, nat_lt, Bool, true, false, not, List, [], ◌∷◌, length, reverse, Option, Some, None}
use Rattle.base16.specs.declared.image.Kind.TheVariants as kind
use Rattle.c_values.specs.declared.value.Location.{Location}
use Rattle.c_values.specs.declared.state.Call.{Call}
use Rattle.c_values.specs.declared.value.Value.{Value}
use Rattle.c_values.specs.declared.value.Value.TheVariants.{Undefined}
use Rattle.cells430.specs.Cells.{Word, Cells}
use Rattle.ir.specs.declared.form.Ir.{Ir}
use Rattle.ir.specs.declared.form.IrFunction.{IrFunction}
use Rattle.ir.specs.declared.control.Temporary.{Temporary}
use Rattle.ir.specs.declared.control.Frame.{Frame}
use Rattle.ir.specs.declared.control.Control.{Control}
use Rattle.ir.specs.declared.control.Control.TheVariants.{At, Calling, Returning}
use Rattle.ir.specs.declared.control.Temporary.TheVariants as temporary
use Rattle.matching.specs.Matches.{Placed, address_of, pointer_code, encoded}
use Rattle.select430.specs.Frames.{temporaries_at}
use Rattle.steps430.specs.Setting.{function_at}

-- ---- how a temporary stands in a word

-- where a place begins: at its object, and for the null pointer at 0
abbrev pub object_address : List Placed → Option ℕ → Option ℕ
object_address alive None = Some 0
object_address alive (Some n) = address_of alive n

-- A place is the address of its object plus its offset. An offset that stands for all great ones may stand in any way.
abbrev pub place_code : List Placed → Location → Option ℕ
place_code alive l = if nat_lt l.offset 65536 then pointer_code (object_address alive l.object) l.offset else None

-- a value stands as in a scalar of a word, a number modulo 2^16
abbrev pub value_code : List Placed → Value → Option ℕ
value_code alive v = encoded alive kind.Int v

abbrev pub temporary_code : List Placed → Temporary → Option ℕ
temporary_code alive (temporary.Value v) = value_code alive v
temporary_code alive (temporary.Place l) = place_code alive l

-- ---- the live calls

-- the arguments of a call lie on the stack of the caller yet, the last one on top
abbrev pub with_args : List Value → List Temporary → List Temporary
with_args [] ts = ts
with_args (v ∷ vs) ts = with_args vs (temporary.Value v ∷ ts)

abbrev pub calling : List Value → List Frame → List Frame
calling args [] = []
calling args (b ∷ below) = record b { temporaries = with_args args b.temporaries } ∷ below

-- the live calls of a run, the youngest first, each with its temporaries, the topmost first
abbrev pub live_frames : Control → List Frame
live_frames (At f q first ts below) = record { function = f; position = q; first = first; temporaries = ts } ∷ below
live_frames (Calling f d args below) = calling args below
live_frames (Returning v below) = below

-- ---- held

abbrev pub IsWord : Cells → ℕ → Type 0
IsWord f a = (v : Option ℕ) × (f a ≡ Some (Word v))

-- a word has a code, where there is one: that of a pointer to an object that is gone may be any
abbrev pub HasCode : Option ℕ → (word : ℕ) → Type 0
HasCode None word = Unit {0}
HasCode (Some code) word = word ≡ code

abbrev pub is_missing : Value → Bool
is_missing Undefined = true
is_missing v = false

abbrev pub is_defined : Temporary → Bool
is_defined (temporary.Value v) = not (is_missing v)
is_defined (temporary.Place l) = true

-- at an address stands a word with a code; where nothing is defined it may be any, and need not count
abbrev pub IsHeld : Cells → ℕ → (defined : Bool) → Option ℕ → Type 0
IsHeld f a true code = (w : ℕ) × (f a ≡ Some (Word (Some w))) × HasCode code w
IsHeld f a false code = IsWord f a

-- the temporaries of a call, whose first word has an address: the depth of one is the number of those below it
abbrev pub AreHeld : Cells → List Placed → (base : ℕ) → List Temporary → Type 0
AreHeld f alive base [] = Unit {0}
AreHeld f alive base (t ∷ ts) =
    IsHeld f (base + 2 * length ts) (is_defined t) (temporary_code alive t) × AreHeld f alive base ts

-- a call whose frame begins at an address has its temporaries there, and all temporary words of the frame are words
pub record CallHolds (f : Cells) (alive : List Placed) (fn : IrFunction) (frame : ℕ) (ts : List Temporary) : Type 0 where
  pub words : (d : ℕ) → temporaries_at fn + 2 * d + 2 ≤ fn.frame → IsWord f (frame + temporaries_at fn + 2 * d)
  pub room : temporaries_at fn + 2 * length ts ≤ fn.frame
  pub held : AreHeld f alive (frame + temporaries_at fn) ts

-- all live calls, the youngest first
abbrev pub Holds : Ir → Cells → List Placed → List Frame → List Call → Type 0
Holds ir f alive [] [] = Unit {0}
Holds ir f alive (l ∷ ls) (c ∷ cs) =
    CallHolds f alive (function_at ir l.function) c.frame l.temporaries × Holds ir f alive ls cs
Holds ir f alive _ _ = ⊥

-- the temporaries of a point of a run are held
abbrev pub AreTemporariesHeld : Ir → Cells → List Placed → Control → List Call → Type 0
AreTemporariesHeld ir f alive c calls = Holds ir f alive (live_frames c) (reverse calls)
