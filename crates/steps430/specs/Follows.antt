-- What it means that the code of a step does the step: for each way in which the step can come out the machine comes there, in
-- at most as many instructions.
use Rattle.std.specs.Prelude.{◌≡◌, ℕ, ◌+◌, ◌-◌, List, drop, Some, slice_get}
use Rattle.base16.specs.declared.end.EndKind.{EndKind}
use Rattle.base16.specs.declared.end.EndKind.TheVariants.{Done, Wild}
use Rattle.c_run.specs.Runs.{Run, Live, Ended as Over, NeedsReading as Lacks, Undefined, Wrong, Outcome, Went, Stopped}
use Rattle.c_values.specs.declared.state.State.{State}
use Rattle.ideal430.specs.Ideal.{Ideal}
use Rattle.ideal430.specs.declared.state.IdealEnd.TheVariants.{Running, Ended, NeedsReading}
use Rattle.cells430.specs.Cells.{HasCode}
use Rattle.cells430.specs.Stretch.{StepsTo, Leads}
use Rattle.ir.specs.declared.form.StepKind.{StepKind}
use Rattle.ir.specs.declared.control.Frame.{Frame}
use Rattle.ir.specs.declared.control.Temporary.{Temporary}
use Rattle.ir.specs.declared.control.Control.{Control}
use Rattle.ir.specs.declared.control.Control.TheVariants.{At}
use Rattle.ir.specs.Machine.{act}
use Rattle.matching.specs.Simulates.{MachineMatches}
use Rattle.steps430.specs.Setting.{Setting, function_of}
use Rattle.steps430.specs.Standing.{StandsAt}

-- The next instruction makes a mark, and just behind it the words match the state of the run.
pub record MakesMark (p : Setting) (s : State) (used : ℕ) (t : Ideal) : Type 0 where
  pub next : Ideal
  pub step : StepsTo t next
  pub running : next.status ≡ Running
  pub before : t.marks + 1 ≡ next.marks
  pub marks : next.marks ≡ s.marks
  pub taken : next.left ≡ drop used p.readings
  pub matches : MachineMatches p.core s next

-- The next instruction ends the run in this way, and then the words match the state of the run. No access is refused. The end
-- of the outermost call is the last mark, and the machine would go on behind its call.
pub record HasEnded (p : Setting) (kind : EndKind) (s : State) (used : ℕ) (t : Ideal) : Type 0 where
  pub next : Ideal
  pub step : StepsTo t next
  pub ended : next.status ≡ Ended kind
  pub marks : next.marks ≡ s.marks
  pub taken : next.left ≡ drop used p.readings
  pub matches : MachineMatches p.core s next
  pub fair : (address : ℕ) → kind ≡ Wild address → ⊥
  pub left : kind ≡ Done
      → (t.marks + 1 ≡ next.marks) × (next.core.regs 0 ≡ 0x8004) × HasCode p.code p.low p.high next.core.memory

-- it lacks a reading, after so many marks
pub record LacksReading (made : ℕ) (t : Ideal) : Type 0 where
  pub lacks : t.status ≡ NeedsReading
  pub marks : t.marks ≡ made

-- From here at most so many instructions lead to where a step comes out. A mark that ends a run is the last of them.
abbrev pub Follows : Setting → (limit : ℕ) → Outcome Control → Ideal → Type 0
Follows p limit (Went c q) t = Leads limit t (StandsAt p c q)
Follows p limit (Stopped (Live s used)) t = Leads (limit - 1) t (MakesMark p s used)
Follows p limit (Stopped (Over kind s used)) t = Leads (limit - 1) t (HasEnded p kind s used)
Follows p limit (Stopped Lacks) t = Leads limit t (LacksReading t.marks)
Follows p limit (Stopped (Undefined rule node)) t = Unit {0}
Follows p limit (Stopped Wrong) t = Unit {0}

-- the code of a step does the step, in at most so many instructions
abbrev pub DoesStep : Setting → (limit : ℕ) → StepKind → Type 0
DoesStep p limit k = (f q first : ℕ) (ts : List Temporary) (below : List Frame) (node : ℕ) (r : Run) (t : Ideal)
    → slice_get (function_of p f).steps q ≡ Some (record { node = node; kind = k })
    → StandsAt p (At f q first ts below) r t
    → Follows p limit (act p.ir p.readings node k f q first ts below r) t
