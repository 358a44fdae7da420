-- What it means that the code of the entry of a function, and that behind a call, does its step. Where the objects of calls lie.
use Rattle.std.specs.Prelude.{◌≡◌, ℕ, ◌+◌, ◌<◌, ◌≤◌, List, [], ◌∷◌, length, Option, Some, None, slice_get}
use Rattle.base16.specs.Board.{data_start, data_end}
use Rattle.base16.specs.Placement.{frame_below}
use Rattle.c_run.specs.Actions.{kept, left_call, top_of, with_call}
use Rattle.c_run.specs.Making.{fresh_objects}
use Rattle.c_run.specs.Runs.{Run}
use Rattle.c_values.specs.declared.state.Call.{Call}
use Rattle.c_values.specs.declared.state.Saved.{Saved}
use Rattle.c_values.specs.declared.state.State.{State}
use Rattle.c_values.specs.declared.value.Cell.{Cell}
use Rattle.c_values.specs.declared.value.Value.{Value}
use Rattle.c_values.specs.declared.value.Value.TheVariants.{Pointer}
use Rattle.cells430.specs.Cells.{Cells, IsLayout}
use Rattle.core_tree.specs.Data.{global_address, stamp_address}
use Rattle.core_tree.specs.LawfulCore.{Every}
use Rattle.core_tree.specs.declared.program.Core.{Core}
use Rattle.core_tree.specs.declared.types.Slot.{Slot}
use Rattle.ideal430.specs.Ideal.{Ideal}
use Rattle.ir.specs.declared.control.Frame.{Frame}
use Rattle.ir.specs.declared.control.Control.TheVariants.{Calling, Returning}
use Rattle.ir.specs.declared.control.Temporary.{Temporary}
use Rattle.ir.specs.declared.control.Temporary.TheVariants as temporary
use Rattle.ir.specs.declared.form.IrFunction.{IrFunction}
use Rattle.ir.specs.declared.form.StepKind.{StepKind}
use Rattle.ir.specs.declared.form.StepKind.TheVariants as step
use Rattle.ir.specs.Machine.{objects_of, act_enter, act_result}
use Rattle.ir.specs.Typed.{IsTyped}
use Rattle.matching.specs.Covering.{cell_of}
use Rattle.matching.specs.Laid.{IsMade}
use Rattle.matching.specs.Matches.{Placed, placed_from, local_address, offset_in, placed}
use Rattle.select430.specs.Frames.{temporaries_at}
use Rattle.steps430.specs.Setting.{Setting, function_of}
use Rattle.steps430.specs.Holds.{calling}
use Rattle.steps430.specs.Standing.{StandsAt}
use Rattle.steps430.specs.Follows.{Follows}

-- ---- pointers to objects that have come to life

abbrev pub IsKnownValue : (next : ℕ) → Value → Type 0
IsKnownValue next (Pointer n offset) = n < next
IsKnownValue next v = Unit {0}

abbrev pub IsKnownNumber : (next : ℕ) → Option ℕ → Type 0
IsKnownNumber next None = Unit {0}
IsKnownNumber next (Some n) = n < next

abbrev pub IsKnownTemporary : (next : ℕ) → Temporary → Type 0
IsKnownTemporary next (temporary.Value v) = IsKnownValue next v
IsKnownTemporary next (temporary.Place l) = IsKnownNumber next l.object

abbrev pub AreKnownFrames : (next : ℕ) → List Frame → Type 0
AreKnownFrames next frames = Every (λ (l : Frame). Every (IsKnownTemporary next) l.temporaries) frames

-- So many objects came to life, and all pointers of a state and its temporaries are to these.
pub record AreKnown (core : Core) (next : ℕ) (s : State) (frames : List Frame) : Type 0 where
  pub scalars : Every (λ (q : Placed). Every (λ (c : Cell). IsKnownValue next c.value) q.object.cells) (placed core (kept s))
  pub temporaries : AreKnownFrames next frames

-- ---- steps

-- the code at the entry of a function, which is typed, enters it where all pointers are to objects that came to life
abbrev pub DoesEnter : Setting → (limit : ℕ) → StepKind → Type 0
DoesEnter p limit k = (f d : ℕ) (args : List Value) (below : List Frame) (node : ℕ) (r : Run) (t : Ideal)
    → IsTyped (function_of p f) k
    → slice_get (function_of p f).steps 0 ≡ Some (record { node = node; kind = k })
    → AreKnown p.core r.next r.state (calling args below)
    → StandsAt p (Calling f d args below) r t
    → Follows p limit (act_enter p.ir p.readings k f (function_of p f) args below r) t

-- the code behind a call takes what the call gave
abbrev pub DoesResult : Setting → (limit : ℕ) → StepKind → Type 0
DoesResult p limit k = (v : Value) (b : Frame) (below : List Frame) (node : ℕ) (r : Run) (t : Ideal)
    → slice_get (function_of p b.function).steps b.position ≡ Some (record { node = node; kind = k })
    → StandsAt p (Returning v (b ∷ below)) r t
    → Follows p limit (act_result p.ir p.readings k v b below r) t

-- ---- where scalars lie

-- all scalars of these objects lie from an address on up to another
abbrev pub LieIn : (low high : ℕ) → List Placed → Type 0
LieIn low high ps = Every (λ q. Every (λ c. (low ≤ q.address + c.offset) × (q.address + c.offset < high)) q.object.cells) ps

-- those of a call lie in its frame, below the temporaries
abbrev pub LiesInFrame : Setting → Call → Type 0
LiesInFrame p c =
    LieIn c.frame (c.frame + temporaries_at (function_of p c.function)) (placed_from (local_address p.core c) 0 c.locals)

-- the scalars of locals have cells without a value, the first local being the n-th of those that have these offsets
abbrev pub HaveCells : Cells → (offset : ℕ → ℕ) → (n : ℕ) → List (List Slot) → Type 0
HaveCells inner offset n [] = Unit {0}
HaveCells inner offset n (slots ∷ more) =
    Every (λ (s : Slot). inner (offset n + s.offset) ≡ Some (cell_of s.kind None)) slots × HaveCells inner offset (n + 1) more

-- the locals of a function have their cells in its frame, below the temporaries
pub record LocalsLaid (p : Setting) (f : ℕ) : Type 0 where
  pub inner : Cells
  pub layout : IsLayout (temporaries_at (function_of p f)) inner
  pub cells : HaveCells inner (offset_in p.core.structs (slice_get p.core.functions f)) 0 (objects_of (function_of p f))

-- a call of a function, whose objects come to life
abbrev pub new_call : IrFunction → (f frame next : ℕ) → Call
new_call fn f frame next = record { function = f; frame = frame; locals = fresh_objects next (objects_of fn) }

-- In a state as a run makes it, variables and stamps lie in the data, and the objects of a call in its frame. Where its
-- youngest call is over it is still so, and so where a call begins.
pub record FramesLaid (p : Setting) : Type 0 where
  pub variables : (next : ℕ) (s : Saved) → IsMade p.core next s
      → LieIn data_start data_end (placed_from (global_address p.core) 0 s.globals)
  pub frames : (next : ℕ) (s : Saved) → IsMade p.core next s → Every (LiesInFrame p) s.calls
  pub stamps : (n : ℕ) → data_start ≤ stamp_address p.core n
  pub locals : (f : ℕ) (fn : IrFunction) → slice_get p.ir.functions f ≡ Some fn → LocalsLaid p f
  pub left : (next : ℕ) (s : State) → IsMade p.core next (kept s) → IsMade p.core next (kept (left_call s))
  pub entered : (next : ℕ) (s : State) (f frame : ℕ) (fn : IrFunction) → slice_get p.ir.functions f ≡ Some fn
      → frame_below (top_of s) fn.frame ≡ Some frame → IsMade p.core next (kept s)
      → IsMade p.core (next + length (objects_of fn)) (kept (with_call (new_call fn f frame next) s))
  -- a function gets as many arguments as it has parameters
  pub counts : (f q node d g n : ℕ) → slice_get (function_of p f).steps q ≡ Some (record { node = node; kind = step.Call d g n })
      → n ≡ (function_of p g).params
