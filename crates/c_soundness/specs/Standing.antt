-- What every run of a lawful program stands in: each scalar of its objects has a value of its kind, or none, and the
-- objects of the calls have the scalars of their types.
use Rattle.std.specs.Prelude.{◌≡◌, ℕ, ◌+◌, ◌<◌, ◌≤◌, Bool, List, length, slice_get, Option, Some, None}
use Rattle.core_tree.specs.declared.types.Slot.{Slot}
use Rattle.core_tree.specs.LawfulCore.{Every}
use Rattle.c_values.specs.declared.value.Cell.{Cell}
use Rattle.c_values.specs.declared.state.Object.{Object}
use Rattle.c_values.specs.declared.state.Call.{Call}
use Rattle.c_values.specs.declared.state.Saved.{Saved}
use Rattle.c_values.specs.declared.state.State.{State}
use Rattle.c_run.specs.Runs.{Run}
use Rattle.c_soundness.specs.Shapes.{holds_pointer, MayStand}

-- where pointers stand: by the number of an object and the offset in it
abbrev pub Kinds : Type 0
Kinds = ℕ → ℕ → Bool

-- a scalar of an object
pub record CellStands (kinds : Kinds) (n : ℕ) (c : Cell) : Type 0 where
  pub kind : holds_pointer c.kind ≡ kinds n c.offset
  pub value : MayStand (kinds n c.offset) c.value

-- an object, one of those that came to life
pub record ObjectStands (kinds : Kinds) (next : ℕ) (o : Object) : Type 0 where
  pub made : o.number < next
  pub cells : Every (CellStands kinds o.number) o.cells

abbrev pub CallStands : Kinds → ℕ → Call → Type 0
CallStands kinds next c = Every (ObjectStands kinds next) c.locals

-- what an open block keeps, which may come back
abbrev pub SavedStands : Kinds → ℕ → Option Saved → Type 0
SavedStands kinds next None = Unit {0}
SavedStands kinds next (Some b) = Every (ObjectStands kinds next) b.globals × Every (CallStands kinds next) b.calls

pub record StateStands (kinds : Kinds) (next : ℕ) (s : State) : Type 0 where
  pub globals : Every (ObjectStands kinds next) s.globals
  pub calls : Every (CallStands kinds next) s.calls
  pub saved : SavedStands kinds next s.block

-- a call that goes on: the number of its first object, and the scalars of its objects in order
pub record Frame : Type 0 where
  pub first : ℕ
  pub objects : List (List Slot)

-- pointers stand in its objects where their types have them
pub record FrameStands (kinds : Kinds) (next : ℕ) (f : Frame) : Type 0 where
  pub made : f.first + length f.objects ≤ next
  pub slots : (n : ℕ) (slots : List Slot) → slice_get f.objects n ≡ Some slots
      → Every (λ s. kinds (f.first + n) s.offset ≡ holds_pointer s.kind) slots

-- a run with fewer marks left than a number
pub record StandsBy (kinds : Kinds) (frames : List Frame) (below : ℕ) (r : Run) : Type 0 where
  pub state : StateStands kinds r.next r.state
  pub calls : Every (FrameStands kinds r.next) frames
  pub left : r.left < below

-- wherever pointers stand
pub record Stands (frames : List Frame) (below : ℕ) (r : Run) : Type 0 where
  pub kinds : Kinds
  pub by : StandsBy kinds frames below r
