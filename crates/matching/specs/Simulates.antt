-- When the machine with unbroken power, running an image, simulates a program: on all readings it makes the marks of the C
-- run, its words match the states of the C run just behind them, and it stops as the C run does.
use Rattle.std.specs.Prelude.{◌≡◌, ℕ, ◌+◌, ◌*◌, ◌<◌, ◌≤◌, false, List, drop, Some}
use Rattle.base16.specs.Readings.{IsReadings}
use Rattle.base16.specs.declared.end.EndKind.{EndKind}
use Rattle.base16.specs.declared.end.EndKind.TheVariants.{Done, Wild}
use Rattle.base16.specs.declared.reading.Reading.{Reading}
use Rattle.c_meaning.specs.After.{after, used}
use Rattle.c_meaning.specs.declared.outcome.CState.{CState}
use Rattle.c_meaning.specs.declared.outcome.CState.TheVariants as state
use Rattle.c_run.specs.Actions.{kept}
use Rattle.c_values.specs.declared.state.State.{State}
use Rattle.core430.specs.Step.{fetched}
use Rattle.core430.specs.Uses.{IsWithin, step_changes}
use Rattle.core_tree.specs.Nodes.{nodes}
use Rattle.core_tree.specs.declared.program.Core.{Core}
use Rattle.ideal430.specs.Ideal.{Ideal, run}
use Rattle.ideal430.specs.Loaded.{loaded, start_of}
use Rattle.ideal430.specs.Places.{is_in_segment}
use Rattle.ideal430.specs.Uses.{IsClean}
use Rattle.ideal430.specs.declared.state.IdealEnd.TheVariants.{Running, Ended, NeedsReading}
use Rattle.isa430.specs.declared.instr.Instr.{Instr}
use Rattle.isa430.specs.declared.instr.Instr.TheVariants.{One}
use Rattle.isa430.specs.declared.instr.OneOp.TheVariants.{Call}
use Rattle.isa430.specs.declared.instr.Src.TheVariants.{Immediate}
use Rattle.matching.specs.Matches.{Matches}
use Rattle.matching.specs.Said.{said, OpeningCounts}

-- ---- on the way

-- a program of so many nodes makes at most so many instructions from one mark to the next
abbrev pub most_between_marks : Core → ℕ
most_between_marks core = 424 * nodes core

-- The machine makes n instructions, with their services. None but the last may stop it, and that one not as a fault of access.
pub record GoesWell (core : Core) (start : Ideal) (n : ℕ) : Type 0 where
  pub running : (k : ℕ) → k < n → (run k start).status ≡ Running
  pub never_wild : (address : ℕ) → (run n start).status ≡ Ended (Wild address) → ⊥
  -- they use settled bytes alone
  pub clean : IsClean n start
  -- what an instruction writes itself lies in the working segment
  pub inside : (k : ℕ) → k < n → IsWithin (step_changes (run k start).core) (is_in_segment (run k start).segment)
  -- of those that stand between two marks, or beside a mark and the start or a stop, the last is near the first
  pub bounded : (i j : ℕ) → i ≤ j → j < n → (run i start).marks ≡ (run j start).marks → j < i + most_between_marks core

-- The words of the machine, with those that it has noted, match a state, and by settled bytes alone: any other memory that
-- agrees with it on these matches the state as well.
pub record MachineMatches (core : Core) (s : State) (t : Ideal) : Type 0 where
  pub matches : Matches core s t.core.memory t.block
  pub settled : IsWithin (said core (kept s)) t.settled
  pub opening : OpeningCounts core s.block t.block t.earlier t.settled

-- it has taken as many readings as the C run, which was asked for so many marks
abbrev pub TakesAlike : Core → List Reading → (s : ℕ) → Ideal → Type 0
TakesAlike core readings s t = t.left ≡ drop (used core readings s) readings

-- ---- where the C run is

-- the machine has just made its s-th mark, and its words match this state
pub record IsBehindMark (core : Core) (readings : List Reading) (s : ℕ) (c : State) (start : Ideal) (n : ℕ) : Type 0 where
  pub well : GoesWell core start n
  pub running : (run n start).status ≡ Running
  pub marks : (run n start).marks ≡ s
  pub first : (k : ℕ) → k < n → (run k start).marks < s
  pub matches : MachineMatches core c (run n start)
  pub taken : TakesAlike core readings s (run n start)

-- what the code has behind its call of `main`, at 8004: a call of the service that ends a run
abbrev pub last_call : Instr
last_call = One Call false (Immediate 0xFF00)

-- the n-th instruction has left the outermost `main`, which was the last mark, and the machine would go on there
pub record HasLeftMain (start : Ideal) (n marks : ℕ) : Type 0 where
  pub first : (k : ℕ) → k < n → (run k start).marks < marks
  pub pc : (run n start).core.regs 0 ≡ 0x8004
  pub code : fetched (run n start).core ≡ Some last_call

-- the machine has ended in this way, after the marks of this state, and its words match it
pub record HasEnded (core : Core) (readings : List Reading) (s : ℕ) (kind : EndKind) (c : State) (start : Ideal)
    (n : ℕ) : Type 0 where
  pub well : GoesWell core start n
  pub ended : (run n start).status ≡ Ended kind
  pub marks : (run n start).marks ≡ c.marks
  pub matches : MachineMatches core c (run n start)
  pub taken : TakesAlike core readings s (run n start)
  pub left : kind ≡ Done → HasLeftMain start n c.marks

abbrev pub IsLive : CState → Type 0
IsLive (state.Live c) = Unit {0}
IsLive _ = ⊥

-- the machine lacks a reading after as many marks as the C run
pub record LacksReading (core : Core) (readings : List Reading) (start : Ideal) (n : ℕ) : Type 0 where
  pub well : GoesWell core start n
  pub lacks : (run n start).status ≡ NeedsReading
  pub live : IsLive (after core readings (run n start).marks)
  pub lacking : after core readings ((run n start).marks + 1) ≡ state.NeedsReading

-- after n instructions the machine is where the C run is that was asked for s marks, unless that is undefined
abbrev pub IsWhere : Core → List Reading → (s : ℕ) → CState → (start : Ideal) → (n : ℕ) → Type 0
IsWhere core readings s (state.Live c) start n = IsBehindMark core readings s c start n
IsWhere core readings s (state.Ended kind c) start n = HasEnded core readings s kind c start n
IsWhere core readings s state.NeedsReading start n = LacksReading core readings start n
IsWhere core readings s (state.Undefined rule node) start n = Unit {0}

-- ---- the whole

-- a machine, with these readings to take, follows the C run on them: for each number of marks it comes to where the C run is
abbrev pub Follows : Core → List Reading → Ideal → Type 0
Follows core readings start = (s : ℕ) → (n : ℕ) × IsWhere core readings s (after core readings s) start n

-- The image with these words of code and of data simulates the program.
abbrev pub Simulates : Core → (code globals : List ℕ) → Type 0
Simulates core code globals =
    (readings : List Reading) → IsReadings readings → Follows core readings (start_of (loaded code globals) readings)
