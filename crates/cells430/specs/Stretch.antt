-- Stretches of a run on the machine with unbroken power, each step of which is as it has to be, and the state that rules
-- speak of.
use Rattle.std.specs.Prelude.{◌≡◌, ◌≤◌, ◌<◌, ℕ, zero, suc, ◌+◌, ◌%◌, List, [], None, ◌-◌, ◌*◌}
use Rattle.base16.specs.Board.{stack_end, segment_start, segment_top, code_start, code_end}
use Rattle.base16.specs.declared.reading.Reading.{Reading}
use Rattle.core430.specs.Registers.{set_reg}
use Rattle.core430.specs.Uses.{AreWords, step_changes, IsWithin}
use Rattle.ideal430.specs.Places.{is_in_segment}
use Rattle.ideal430.specs.Service.{Block}
use Rattle.ideal430.specs.Settled.{Bytes}
use Rattle.ideal430.specs.Ideal.{Ideal, Meter, stopped, next, run}
use Rattle.ideal430.specs.Uses.{UsesSettled}
use Rattle.ideal430.specs.declared.state.IdealEnd.{IdealEnd}
use Rattle.ideal430.specs.declared.state.IdealEnd.TheVariants.{Running}
use Rattle.cells430.specs.Cells.{Cells, Facts}

-- ---- the state

-- how far a run has come: the marks, the readings that are left, and the block that is open
pub record Course : Type 0 where
  pub marks : ℕ
  pub left : List Reading
  pub block : Block
  pub earlier : List Bytes

-- no block is open
abbrev pub outside : (marks : ℕ) → List Reading → Course
outside marks left = record { marks = marks; left = left; block = None; earlier = [] }

-- one mark more
abbrev pub with_mark : Course → Course
with_mark course = record course { marks = course.marks + 1 }

-- the machine in this segment, with these last stack pointers of the older ones, these registers and this memory
abbrev pub at : (segment : ℕ) (pointers r m : ℕ → ℕ) → Bytes → Course → Meter → Ideal
at segment pointers r m settled course meter = record {
  core = record { regs = r; memory = m };
  segment = segment;
  block = course.block;
  marks = course.marks;
  left = course.left;
  status = Running;
  settled = settled;
  pointers = pointers;
  earlier = course.earlier;
  meter = meter;
}

-- where code stands, and the stack pointer: at an even address of the working segment, with a word free below it
pub record Ground (lo hi segment sp : ℕ) : Type 0 where
  pub low : code_start ≤ lo
  pub high : hi ≤ code_end
  pub base : segment_start segment + 2 ≤ sp
  pub top : sp ≤ segment_top segment
  pub last : segment_top segment ≤ stack_end
  pub even : sp % 2 ≡ 0

-- ---- stretches

-- One instruction, with the service that it calls. It uses settled bytes alone, and the instruction writes to the working
-- segment alone.
pub record StepsTo (t u : Ideal) : Type 0 where
  pub goes : next t ≡ u
  pub running : t.status ≡ Running
  pub uses : UsesSettled t
  pub writes : IsWithin (step_changes t.core) (is_in_segment t.segment)

abbrev pub IdealRuns : ℕ → Ideal → Ideal → Type 0
IdealRuns zero t u = t ≡ u
IdealRuns (suc n) t u = (v : Ideal) × StepsTo t v × IdealRuns n v u

-- at most so many instructions lead to a state that is such
pub record Leads (limit : ℕ) (t : Ideal) (Q : Ideal → Type 0) : Type 0 where
  pub steps : ℕ
  pub within : steps ≤ limit
  pub end : Ideal
  pub runs : IdealRuns steps t end
  pub so : Q end

-- One step comes to these registers in this segment, where these cells stand: the run goes on, or it has stopped.
pub record Comes (c : ℕ → ℕ) (lo hi : ℕ) (t : Ideal) (status : IdealEnd) (segment : ℕ) (pointers r : ℕ → ℕ) (course : Course)
    (f : Cells) : Type 0 where
  pub memory : ℕ → ℕ
  pub settled : Bytes
  pub meter : Meter
  pub step : StepsTo t (stopped (at segment pointers r memory settled course meter) status)
  pub facts : Facts c lo hi f memory settled
  pub words : AreWords r

-- each of the first n steps of a run is as it has to be
abbrev pub IsProper : ℕ → Ideal → Type 0
IsProper n t = (k : ℕ) → k < n → StepsTo (run k t) (next (run k t))

-- ---- calls of services

-- the registers as service n is reached by a call
abbrev pub reached_regs : (n sp : ℕ) → (ℕ → ℕ) → (ℕ → ℕ)
reached_regs n sp r = set_reg (set_reg (set_reg r 0 (r 0 + 4)) 1 (sp - 2)) 0 (65280 + 2 * n)

-- the registers behind the call
abbrev pub behind : (ℕ → ℕ) → (ℕ → ℕ)
behind r = set_reg r 0 (r 0 + 4)
