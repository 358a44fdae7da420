-- Where the machine stands while the run of a form is at a point: its code and its cells are in memory, and the stack is that
-- of the live calls. No block is open.
use Rattle.std.specs.Prelude.{◌≡◌, ℕ, ◌+◌, ◌<◌, ◌≤◌, ◌⊎◌, ℤ, false, List, [], ◌∷◌, length, drop, reverse, Some, None, Ok}
use Rattle.base16.specs.Board.{outputs_start, outputs_end, segment_start, segment_top, first_stack_pointer}
use Rattle.base16.specs.Integer.{wrapped}
use Rattle.c_run.specs.Actions.{kept}
use Rattle.c_run.specs.Runs.{Run}
use Rattle.c_values.specs.Values.{all_present}
use Rattle.c_values.specs.declared.state.Call.{Call}
use Rattle.c_values.specs.declared.state.State.{State}
use Rattle.c_values.specs.declared.value.Cell.{Cell as Scalar}
use Rattle.c_values.specs.declared.value.Value.{Value}
use Rattle.c_values.specs.declared.value.Value.TheVariants.{Int}
use Rattle.core_tree.specs.LawfulCore.{Every}
use Rattle.core430.specs.Uses.{AreWords}
use Rattle.ideal430.specs.Ideal.{Ideal, Meter}
use Rattle.ideal430.specs.Service.{is_linked}
use Rattle.ideal430.specs.Settled.{Bytes}
use Rattle.cells430.specs.Cells.{Cell, Word, Cells, Shape, Facts, output_cell}
use Rattle.cells430.specs.Stretch.{Ground, outside, at}
use Rattle.ir.specs.declared.control.Frame.{Frame}
use Rattle.ir.specs.declared.control.Temporary.{Temporary}
use Rattle.ir.specs.declared.control.Control.{Control}
use Rattle.ir.specs.declared.control.Control.TheVariants.{At, Calling, Returning}
use Rattle.matching.specs.Covering.{cell_of, IsCovered}
use Rattle.matching.specs.Laid.{IsMade}
use Rattle.matching.specs.Matches.{Placed, placed, number_code}
use Rattle.select430.specs.Frames.{temporaries_at, temporary_at}
use Rattle.steps430.specs.Holds.{live_frames, is_missing, HasCode, Holds, value_code}
use Rattle.steps430.specs.Setting.{Setting, NumberedFrom, function_of, step_at}

-- ---- objects

-- a number stands whole in its scalar
pub record IsWhole (c : Scalar) : Type 0 where
  pub same : (z : ℤ) → c.value ≡ Int z → number_code c.kind z ≡ wrapped z

abbrev pub AreWhole : List Placed → Type 0
AreWhole ps = Every (λ p. Every IsWhole p.object.cells) ps

-- a scalar that has a value has a word or a byte
pub record IsFilled (own : Cells) (address : ℕ) (c : Scalar) : Type 0 where
  pub word : is_missing c.value ≡ false → (w : ℕ) × (own (address + c.offset) ≡ Some (cell_of c.kind (Some w)))

abbrev pub AreFilled : Cells → List Placed → Type 0
AreFilled own ps = Every (λ p. Every (IsFilled own p.address) p.object.cells) ps

-- ---- the stack

-- where a call that waits goes on; behind the outermost call stands the code that ends a run
abbrev pub return_to : Setting → List Frame → ℕ
return_to p [] = 0x8004
return_to p (l ∷ ls) = step_at p l.function l.position

-- a frame of a call at an address, and its locals
pub record IsFrame (p : Setting) (own : Cells) (l : Frame) (c : Call) (sp : ℕ) : Type 0 where
  pub frame : c.frame ≡ sp
  pub function : c.function ≡ l.function
  pub numbers : NumberedFrom l.first c.locals
  pub locals : length c.locals ≡ length (function_of p l.function).locals
  pub objects : temporaries_at (function_of p l.function) ≤ (function_of p l.function).frame
  -- no scalar stands at its temporaries, nor in the word behind it
  pub clear : (b : ℕ) → sp + temporaries_at (function_of p l.function) ≤ b → b < sp + (function_of p l.function).frame + 2
      → own b ≡ None

-- behind a frame that ends at an address stands the word to which the call returns
pub record ReturnsHere (all : Cells) (to segment end : ℕ) : Type 0 where
  pub word : all end ≡ Some (Word (Some to))
  pub below : end + 2 ≤ segment_top segment
  pub no_link : is_linked segment end ≡ false

-- or, at the top of a segment, the link word to this word in the segment below
pub record ReturnsBelow (all own : Cells) (to segment end older at : ℕ) : Type 0 where
  pub next : segment ≡ older + 1
  pub top : end + 2 ≡ segment_top segment
  pub link : all end ≡ Some (Word (Some at))
  pub low : segment_start older + 2 ≤ at
  pub high : at + 2 < segment_top older
  pub word : all at ≡ Some (Word (Some to))
  pub clear : own at ≡ None

-- the live calls of a run, the youngest first, whose frames are these calls': the youngest's begins at sp
abbrev pub Stacked : Setting → (all own : Cells) → (segment sp : ℕ) → List Frame → List Call → Type 0
Stacked p all own segment sp [] [] = (segment ≡ 0) × (sp ≡ first_stack_pointer)
Stacked p all own segment sp (l ∷ ls) (c ∷ cs) =
    IsFrame p own l c sp
    × ((ReturnsHere all (return_to p ls) segment (sp + (function_of p l.function).frame)
    × Stacked p all own segment (sp + (function_of p l.function).frame + 2) ls cs)
    ⊎ ((older : ℕ) × (at : ℕ)
    × ReturnsBelow all own (return_to p ls) segment (sp + (function_of p l.function).frame) older at
    × Stacked p all own older (at + 2) ls cs))
Stacked p all own segment sp _ _ = ⊥

-- ---- what stands

-- Where the machine is in a state of a run with these live calls, in which so many objects came to life. `all` are its cells,
-- and `own` those of the state. The youngest frame begins at `base`, and the stack pointer is `sp`.
pub record Stage (p : Setting) (s : State) (next : ℕ) (frames : List Frame) (all own : Cells) (segment base sp : ℕ)
    (pointers r m : ℕ → ℕ) (settled : Bytes) : Type 0 where
  pub ground : Ground p.low p.high segment sp
  pub shape : Shape segment sp pointers all
  pub facts : Facts p.code p.low p.high all m settled
  pub words : AreWords r
  pub stack : r 1 ≡ sp
  -- the cells of the state are among the cells
  pub part : (b : ℕ) (x : Cell) → own b ≡ Some x → all b ≡ Some x
  pub covered : IsCovered p.core (kept s) own
  pub made : IsMade p.core next (kept s)
  pub filled : AreFilled own (placed p.core (kept s))
  pub whole : AreWhole (placed p.core (kept s))
  pub outputs : (b : ℕ) → outputs_start ≤ b → b < outputs_end → all b ≡ output_cell s.outputs b
  pub stacked : Stacked p all own segment base frames (reverse s.calls)
  pub holds : Holds p.ir all (placed p.core (kept s)) frames (reverse s.calls)
  pub no_block : s.block ≡ None

-- ---- at a point

-- where the arguments of a call are, in the frame of the caller
abbrev pub arguments_at : Setting → (base d : ℕ) → List Frame → ℕ → Type 0
arguments_at p base d [] w = Unit {0}
arguments_at p base d (b ∷ below) w = w ≡ base + temporary_at (function_of p b.function) (length b.temporaries)

-- Between two steps of a call the stack pointer is at its frame. At the entry of a function it is at the word to which the
-- call returns, and R14 says where the arguments are. Behind a call R12 has what it gave.
pub data IsAt (p : Setting) (alive : List Placed) (all own : Cells) (segment base sp : ℕ) (r : ℕ → ℕ) : Control → Type 0 where
  Between : {f q first : ℕ} {ts : List Temporary} {below : List Frame} → base ≡ sp → segment_start segment + 4 ≤ sp
      → r 0 ≡ step_at p f q → IsAt p alive all own segment base sp r (At f q first ts below)
  Entering : {f d : ℕ} {args : List Value} {below : List Frame} → base ≡ sp + 2
      → all sp ≡ Some (Word (Some (return_to p below))) → own sp ≡ None → r 0 ≡ step_at p f 0
      → arguments_at p base d below (r 14) → all_present args ≡ Ok tt → (below ≡ [] → args ≡ [])
      → length args ≡ (function_of p f).params
      → IsAt p alive all own segment base sp r (Calling f d args below)
  Behind : {v : Value} {b : Frame} {below : List Frame} → base ≡ sp → segment_start segment + 4 ≤ sp
      → r 0 ≡ step_at p b.function b.position → HasCode (value_code alive v) (r 12)
      → IsAt p alive all own segment base sp r (Returning v (b ∷ below))

-- The machine stands where the run of the form is, after as many marks and readings.
pub record StandsAt (p : Setting) (c : Control) (q : Run) (t : Ideal) : Type 0 where
  pub all : Cells
  pub own : Cells
  pub segment : ℕ
  pub base : ℕ
  pub sp : ℕ
  pub pointers : ℕ → ℕ
  pub r : ℕ → ℕ
  pub m : ℕ → ℕ
  pub settled : Bytes
  pub meter : Meter
  pub is : t ≡ at segment pointers r m settled (outside q.state.marks (drop q.used p.readings)) meter
  pub stage : Stage p q.state q.next (live_frames c) all own segment base sp pointers r m settled
  pub point : IsAt p (placed p.core (kept q.state)) all own segment base sp r c
