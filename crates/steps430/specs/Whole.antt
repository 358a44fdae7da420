-- Whole runs: that the code of all steps of a form does them, and where the machine is when the run of the form has stopped.
use Rattle.std.specs.Prelude.{◌≡◌, ℕ, suc, ◌+◌, ◌/◌, ◌<◌, ◌≤◌, if◌then◌else◌, List, [], ◌∷◌, drop, Option, Some, None, slice_get}
use Rattle.base16.specs.declared.end.EndKind.{EndKind}
use Rattle.base16.specs.declared.end.EndKind.TheVariants.{Done, Wild}
use Rattle.base16.specs.declared.reading.Reading.{Reading}
use Rattle.c_meaning.specs.After as meaning
use Rattle.c_run.specs.Runs.{Run, Stop, Live, Ended as Over, NeedsReading as Lacks, Undefined, Wrong, Went}
use Rattle.c_values.specs.declared.state.State.{State}
use Rattle.c_values.specs.declared.value.Value.{Value}
use Rattle.cells430.specs.Cells.{HasCode}
use Rattle.cells430.specs.Stretch.{StepsTo, IdealRuns}
use Rattle.ideal430.specs.Ideal.{Ideal, run}
use Rattle.ideal430.specs.declared.state.IdealEnd.TheVariants.{Running, Ended, NeedsReading}
use Rattle.ir.specs.declared.form.Ir.{Ir}
use Rattle.ir.specs.declared.form.Step.{Step}
use Rattle.ir.specs.declared.form.StepKind.{StepKind}
use Rattle.ir.specs.declared.control.Frame.{Frame}
use Rattle.ir.specs.declared.control.Control.{Control}
use Rattle.ir.specs.declared.control.Control.TheVariants.{Calling}
use Rattle.ir.specs.Between.{Site, site_of}
use Rattle.ir.specs.Ends.{IsFine}
use Rattle.ir.specs.Machine.{act_enter, one_step, stop_at, start_run, start as begin}
use Rattle.ir.specs.Table.{size, uses_helper}
use Rattle.core430.specs.Step.{instr_at}
use Rattle.matching.specs.Simulates.{MachineMatches, most_between_marks, last_call}
use Rattle.steps430.specs.Setting.{Setting, function_of}
use Rattle.steps430.specs.Standing.{StandsAt}
use Rattle.steps430.specs.Follows.{Follows, DoesStep}
use Rattle.steps430.specs.Calls.{DoesResult}

-- ---- all steps

-- the most instructions of a step: half of its bytes, and 400 more where it uses a helper routine
abbrev pub most_of : StepKind → ℕ
most_of k = size k / 2 + (if uses_helper k then 400 else 0)

-- the code at the entry of a function enters it
abbrev pub Enters : Setting → (limit : ℕ) → StepKind → Type 0
Enters p limit k = (f d : ℕ) (args : List Value) (below : List Frame) (node : ℕ) (r : Run) (t : Ideal)
    → slice_get (function_of p f).steps 0 ≡ Some (record { node = node; kind = k })
    → StandsAt p (Calling f d args below) r t
    → Follows p limit (act_enter p.ir p.readings k f (function_of p f) args below r) t

-- The code of each step does it, whatever it finds: a step of a function, its entry, or what stands behind a call.
pub record AllDo (p : Setting) : Type 0 where
  pub steps : (g q : ℕ) (s : Step) → slice_get (function_of p g).steps q ≡ Some s → DoesStep p (most_of s.kind) s.kind
  pub entries : (g : ℕ) (s : Step) → slice_get (function_of p g).steps 0 ≡ Some s → Enters p (most_of s.kind) s.kind
  pub results : (g q : ℕ) (s : Step) → slice_get (function_of p g).steps q ≡ Some s → DoesResult p (most_of s.kind) s.kind

-- ---- how much stands between two marks

abbrev pub most_of_step : Option Step → ℕ
most_of_step None = 0
most_of_step (Some s) = most_of s.kind

-- the most instructions of the step at a place of a function
abbrev pub most_at : Setting → Site → ℕ
most_at p x = most_of_step (slice_get (function_of p x.function).steps x.position)

abbrev pub most_in : Setting → List Site → ℕ
most_in p [] = 0
most_in p (x ∷ xs) = most_at p x + most_in p xs

-- Where a run comes to, with the step that made the last mark, and the steps that were made since, the latest first.
pub data Since (ir : Ir) (rs : List Reading) (c0 : Control) (r0 : Run) : Control → Run → Option Site → List Site → Type 0 where
  begun : Since ir rs c0 r0 c0 r0 None []
  no_mark : {c d : Control} {r q : Run} {last : Option Site} {made : List Site} → Since ir rs c0 r0 c r last made
      → one_step ir rs c r ≡ Went d q → q.left ≡ r.left → Since ir rs c0 r0 d q last (site_of c ∷ made)
  a_mark : {c d : Control} {r q : Run} {last : Option Site} {made : List Site} → Since ir rs c0 r0 c r last made
      → one_step ir rs c r ≡ Went d q → suc q.left ≡ r.left → Since ir rs c0 r0 d q (Some (site_of c)) []

-- The code does each step to which a run from the start comes.
abbrev pub DoesAll : Setting → Type 0
DoesAll p = (n : ℕ) (c : Control) (r : Run) (last : Option Site) (made : List Site) (t : Ideal)
    → Since p.ir p.readings (Calling p.ir.main 0 [] []) (start_run p.ir n) c r last made → StandsAt p c r t
    → Follows p (most_at p (site_of c)) (one_step p.ir p.readings c r) t

-- What a step does behind its mark stands in what its mark begins. Before the first step stands the call of `main`.
abbrev pub most_behind : Setting → Option Site → ℕ
most_behind p None = 1
most_behind p (Some x) = most_at p x

-- Between two marks there is little: the steps since the last mark, with the one that is made next and with that of the last
-- mark.
abbrev pub StaysShort : Setting → Type 0
StaysShort p = (c : Control) (r0 r : Run) (last : Option Site) (made : List Site)
    → Since p.ir p.readings (Calling p.ir.main 0 [] []) r0 c r last made
    → most_behind p last + (most_at p (site_of c) + most_in p made) < most_between_marks p.core

-- ---- where the machine is

-- From the start n instructions, each as it has to be, lead to a state. Between two marks there are few.
pub record HasCome (p : Setting) (start : Ideal) (n : ℕ) (t : Ideal) : Type 0 where
  pub runs : IdealRuns n start t
  pub bounded : (i j : ℕ) → i ≤ j → j < n → (run i start).marks ≡ (run j start).marks → j < i + most_between_marks p.core

-- all before were made after fewer marks
abbrev pub IsFirst : (start : Ideal) (n marks : ℕ) → Type 0
IsFirst start n marks = (k : ℕ) → k < n → (run k start).marks < marks

-- just behind a mark
pub record IsLive (p : Setting) (start : Ideal) (asked n : ℕ) (s : State) (used : ℕ) : Type 0 where
  pub end : Ideal
  pub come : HasCome p start n end
  pub running : end.status ≡ Running
  pub counted : s.marks ≡ asked
  pub marks : end.marks ≡ s.marks
  pub first : IsFirst start n end.marks
  pub matches : MachineMatches p.core s end
  pub taken : end.left ≡ drop used p.readings

pub record IsOver (p : Setting) (start : Ideal) (n : ℕ) (kind : EndKind) (s : State) (used : ℕ) : Type 0 where
  pub end : Ideal
  pub come : HasCome p start n end
  pub ended : end.status ≡ Ended kind
  pub marks : end.marks ≡ s.marks
  pub matches : MachineMatches p.core s end
  pub taken : end.left ≡ drop used p.readings
  pub fair : (address : ℕ) → kind ≡ Wild address → ⊥
  pub left : kind ≡ Done
      → IsFirst start n end.marks × (end.core.regs 0 ≡ 0x8004) × HasCode p.code p.low p.high end.core.memory

pub record IsLacking (p : Setting) (start : Ideal) (asked n : ℕ) : Type 0 where
  pub end : Ideal
  pub come : HasCome p start n end
  pub lacks : end.status ≡ NeedsReading
  pub marks : end.marks < asked

-- the machine is where the form's run is that was asked for so many marks, unless that breaks a rule
abbrev pub IsWhereFormIs : Setting → (start : Ideal) → (asked : ℕ) → Stop → ℕ → Type 0
IsWhereFormIs p start asked (Live s used) n = IsLive p start asked n s used
IsWhereFormIs p start asked (Over kind s used) n = IsOver p start n kind s used
IsWhereFormIs p start asked Lacks n = IsLacking p start asked n
IsWhereFormIs p start asked (Undefined rule node) n = Unit {0}
IsWhereFormIs p start asked Wrong n = Unit {0}

-- the first instruction calls `main`, and the machine then stands at its entry
pub record StartsRight (p : Setting) (start : Ideal) : Type 0 where
  pub first : Ideal
  pub step : StepsTo start first
  pub marks : start.marks ≡ 0
  pub taken : start.left ≡ drop 0 p.readings
  pub matches : MachineMatches p.core (begin p.ir) start
  pub stands : (left : ℕ) → StandsAt p (Calling p.ir.main 0 [] []) (start_run p.ir left) first

-- behind that call stands the one that ends a run
abbrev pub EndsRight : Setting → Type 0
EndsRight p = (m : ℕ → ℕ) → HasCode p.code p.low p.high m → instr_at m 0x8004 ≡ Some last_call

-- ---- the whole

-- the run of the form stops as that of the program, wherever no rule is broken
abbrev pub SameStops : Setting → Type 0
SameStops p = (s : ℕ) → IsFine (meaning.stop_at p.core p.readings s)
    → stop_at p.ir p.readings s ≡ meaning.stop_at p.core p.readings s

-- All that a machine at its start follows the program by: its code does each step of a form that serves the program.
pub record IsReady (p : Setting) (start : Ideal) : Type 0 where
  pub all : DoesAll p
  pub short : StaysShort p
  pub starts : StartsRight p start
  pub ends : EndsRight p
  pub same : SameStops p
