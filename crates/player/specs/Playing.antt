-- The playing of a board through power cycles: what holds of its memory, of the outside and of the history at each moment.
use Rattle.std.specs.Prelude.{◌≡◌, ◌⊎◌, ℕ, suc, ◌+◌, ◌*◌, ◌<◌, ◌≤◌, ◌^◌, List, [], ◌∷◌, ◌++◌, Option, Some, None, length, drop, fold, sum}
use Rattle.base16.specs.Memory.{words_of}
use Rattle.base16.specs.declared.end.EndKind.{EndKind}
use Rattle.base16.specs.declared.end.EndKind.TheVariants.{Done, Power, StackFull, BlockFull, OutputFull, Wild}
use Rattle.base16.specs.declared.image.Scalar.{Scalar}
use Rattle.base16.specs.declared.reading.Reading.{Reading}
use Rattle.board_map.specs.Map.{count_of}
use Rattle.board_map.specs.Recovered.{Machine, recovered}
use Rattle.board_map.specs.WellFormed.{IsWellFormed}
use Rattle.display.specs.Display.{display_of, ShowsSame}
use Rattle.display.specs.Sets.{sets_between}
use Rattle.fram.specs.Contents.{Contents}
use Rattle.ideal430.specs.Agreement.{Claim}
use Rattle.ideal430.specs.Ideal.{Meter, Ideal, run, with_more}
use Rattle.ideal430.specs.Loaded.{start_of}
use Rattle.ideal430.specs.declared.state.IdealEnd.{IdealEnd}
use Rattle.ideal430.specs.declared.state.IdealEnd.TheVariants.{Running}
use Rattle.services.specs.Following.{Fits}
use Rattle.world.specs.History.{Display, Point, Attempt, Story, beginning, changed, taken_in, after, story}
use Rattle.world.specs.World.{WorldState}
use Rattle.world.specs.declared.history.Record.{Record}
use Rattle.world.specs.declared.history.Record.TheVariants.{On, Read, Commit, Off, End}
use Rattle.world.specs.declared.history.Shown.{Shown}
use Rattle.player.specs.Form.{Phase, IsAtRest, phase_of, cycles_in, reads_of}
use Rattle.player.specs.Ticks.{Cursor, unbegun, woken, committed, cut, EndsWithin, StopsAt, StopsWithin}

-- ---- where a playing begins

-- the board's memory, the outside and the records of the history as the playing began, and the scalars that are shown
pub record Origin : Type 0 where
  pub fram : Contents
  pub world : WorldState
  pub records : List Record
  pub scalars : List Scalar

abbrev pub origin : Contents → WorldState → List Record → List Scalar → Origin
origin fram world records scalars = record { fram = fram; world = world; records = records; scalars = scalars }

-- marks and commit number of a machine
abbrev pub marks_of : Machine → ℕ
marks_of machine = machine.state 3 + 65536 * machine.state 4

abbrev pub commits_of : Machine → ℕ
commits_of machine = machine.state 5 + 65536 * machine.state 6

-- the machine to which the memory recovers
abbrev pub kept_in : Contents → Machine
kept_in fram = recovered (words_of fram.words)

-- no expires block is open in it
pub record IsShut (machine : Machine) : Type 0 where
  pub block : machine.state 1 ≡ 0
  pub length : machine.state 2 ≡ 0

-- what the memory shows to which it recovers
abbrev pub shown_in : List Scalar → Contents → Display
shown_in scalars fram = display_of scalars (kept_in fram).memory

-- the state in which the history of a playing begins: instructions and readings are counted from there on
abbrev pub first_point : Origin → Point
first_point o = record {
  number = commits_of (kept_in o.fram);
  marks = marks_of (kept_in o.fram);
  instrs = 0;
  readings = [];
  display = shown_in o.scalars o.fram;
}

-- the records that a playing added
abbrev pub added_in : Origin → List Record → List Record
added_in o records = drop (length o.records) records

-- the story that they tell
abbrev pub story_in : Origin → List Record → Story
story_in o records = story (first_point o) (added_in o records)

-- ---- the machine with unbroken power

-- It counts as just behind a commit: no tick and no entry since.
pub record IsFresh (meter : Meter) (commits period : ℕ) : Type 0 where
  pub ticks : meter.ticks ≡ 0
  pub entries : meter.entries ≡ 0
  pub commits_are : meter.commits ≡ commits
  pub length : meter.length ≡ 0
  pub period_is : meter.period ≡ period

-- The machine stands where this memory recovers to, just behind a commit, and its run stands so.
pub record HasRecovered (standing : IdealEnd → Type 0) (period : ℕ) (m : ℕ → ℕ) (t : Ideal) : Type 0 where
  pub fits : Fits t m
  pub fresh : IsFresh t.meter (commits_of (recovered m)) period
  pub stands : standing t.status

abbrev pub IsRunning : IdealEnd → Type 0
IsRunning status = status ≡ Running

-- it may have ended as well
abbrev pub IsAny : IdealEnd → Type 0
IsAny status = Unit {0}

-- behind this end of a run: want of power ends no program
abbrev pub IsBehind : EndKind → IdealEnd → Type 0
IsBehind Power status = IsRunning status
IsBehind kind status = IsAny status

-- a machine from which a playing may go on: it has taken all its readings
pub record Starts (start : Ideal) (o : Origin) : Type 0 where
  pub left : start.left ≡ []
  pub at : HasRecovered IsRunning o.world.period (words_of o.fram.words) start

-- the machine of a loaded image, whose meter counts by this period
abbrev pub started : (m : ℕ → ℕ) → (period : ℕ) → Ideal
started m period = record (start_of m []) {
  meter = record { ticks = 0; entries = 0; commits = 0; due_ticks = 0; due_entries = 0; length = 0; period = period };
}

-- a claim for each machine from which the playing may have begun
abbrev pub Always : Origin → List Reading → (instrs : ℕ) → (Ideal → Type 0) → Type 0
Always o readings instrs Q = (start : Ideal) → Starts start o → Claim start readings instrs Q

-- the same before and after one instruction more
abbrev pub AlwaysNext : Origin → List Reading → (instrs : ℕ) → (Ideal → Ideal → Type 0) → Type 0
AlwaysNext o readings instrs Q = (start : Ideal) → Starts start o
    → Claim start readings (suc instrs) (Q (run instrs (with_more start readings)))

-- ---- commits

-- The machine is where a commit was printed: its last mark was due, and was the one of this number. So many ticks it took
-- since the one before, with its commit, and so many entries it made.
pub record IsPrinted (number marks pc sp log ticks : ℕ) (t : Ideal) : Type 0 where
  pub due : t.meter.ticks ≡ 0
  pub ticks_are : t.meter.due_ticks ≡ ticks
  pub log_is : t.meter.due_entries ≡ log
  pub number_is : t.meter.commits ≡ number
  pub marks_are : t.marks ≡ marks
  pub pc_is : t.core.regs 0 ≡ pc
  pub sp_is : t.core.regs 1 ≡ sp

-- the readings of the commits so far and of the attempt that goes on
abbrev pub readings_so_far : Story → List Reading
readings_so_far s = s.last.readings ++ taken_in s.going

-- what was shown at the last commit, with these changes
abbrev pub shown_with : Story → List Shown → Display
shown_with s sets = fold changed s.last.display sets

-- A commit has the number after the last one's, and the machine counts its marks that were due, so it follows the first of
-- them. It wrote 155 words, found the entries that the attempt made, at most 256, and was over within the power cycle. It
-- prints where the machine is on the committed readings after the printed instructions. Its changes are the differences from
-- what was shown at the last commit to what is shown then, and that is what the machine's memory shows.
pub record IsCommit (o : Origin) (s : Story) (c : Cursor) (number marks instrs pc sp words log : ℕ) (sets : List Shown)
    (d : Cursor) : Type 0 where
  pub number_is : number ≡ s.last.number + 1
  pub words_are : words ≡ 155
  pub log_fits : log ≤ 256
  pub ticks : ℕ
  pub machine : Always o (readings_so_far s) instrs (IsPrinted number marks pc sp log ticks)
  pub within : c.at + ticks ≤ c.span
  pub behind : d ≡ committed c ticks
  pub sets_are : sets ≡ sets_between o.scalars s.last.display (shown_with s sets)
  pub shown : Always o (readings_so_far s) instrs (λ t. ShowsSame (shown_with s sets) (display_of o.scalars t.core.memory))

-- ---- power fails

-- an attempt goes on, and P holds of it
abbrev pub OnGoing : Option Attempt → (Attempt → Type 0) → Type 0
OnGoing None P = ⊥
OnGoing (Some a) P = P a

-- power failed in the boot: no reading was taken, and as many entries are valid as before
pub record IsBootCut (s : Story) (c : Cursor) (valid : ℕ) : Type 0 where
  pub within : c.span < c.at
  pub none : OnGoing s.going (λ a. a.readings ≡ [])
  pub same : valid ≡ c.valid

-- Power failed behind the boot, before an instruction or in a service. So neither a mark that was due lies within the power
-- cycle with its commit, nor a mark that was refused.
abbrev pub IsRunCut : Origin → Story → Cursor → (valid : ℕ) → Type 0
IsRunCut o s c valid =
    ((instrs : ℕ) × Always o (readings_so_far s) instrs (StopsAt c s.last.number valid))
    ⊎ ((instrs : ℕ) × AlwaysNext o (readings_so_far s) instrs (StopsWithin c s.last.number valid))

-- Power failed, and so many entries are valid, at most 256.
pub record IsOff (o : Origin) (s : Story) (c d : Cursor) : Type 0 where
  pub behind : d ≡ cut c d.valid
  pub fits : d.valid ≤ 256
  pub how : IsBootCut s c d.valid ⊎ IsRunCut o s c d.valid

-- ---- the end

-- the machine ended so on the readings so far, within the power cycle
pub record HasEnded (o : Origin) (s : Story) (c : Cursor) (kind : EndKind) : Type 0 where
  pub instrs : ℕ
  pub ended : Always o (readings_so_far s) instrs (EndsWithin c s.last.number kind)

-- A run ended as the machine did. Nothing is said of want of power, nor of an access that the board refuses: the write gate
-- refuses more than the machine does.
abbrev pub IsCause : Origin → Story → Cursor → EndKind → Type 0
IsCause o s c Done = HasEnded o s c Done
IsCause o s c Power = Unit {0}
IsCause o s c StackFull = HasEnded o s c StackFull
IsCause o s c BlockFull = HasEnded o s c BlockFull
IsCause o s c OutputFull = HasEnded o s c OutputFull
IsCause o s c (Wild address) = Unit {0}

-- ---- records

-- a record is right, behind this story, and leads from a place to another
abbrev pub IsRight : Origin → Story → Cursor → Record → Cursor → Type 0
IsRight o s c (On cycle) d = d ≡ woken c d.span
IsRight o s c (Read r) d = d ≡ c
IsRight o s c (Commit number marks instrs pc sp words log sets) d = IsCommit o s c number marks instrs pc sp words log sets d
IsRight o s c Off d = IsOff o s c d
IsRight o s c (End kind) d = IsCause o s c kind × (d ≡ c)

-- so is each of these records, one behind the other
abbrev pub AreRight : Origin → Story → Cursor → List Record → Cursor → Type 0
AreRight o s c [] d = d ≡ c
AreRight o s c (r ∷ rest) d = (mid : Cursor) × IsRight o s c r mid × AreRight o (after s r) mid rest d

-- where a playing begins
abbrev pub first_cursor : Origin → Cursor
first_cursor o = unbegun (count_of (words_of o.fram.words))

-- ---- ticks

-- the ticks that are left of the power cycles that began, if some did
abbrev pub left_of : (begun : List ℕ) → (left : ℕ) → ℕ
left_of [] left = 0
left_of (x ∷ rest) left = left

-- Power cycles of these ticks began, one for each `On` record, and all of them are spent but those that are left.
pub record Powers (o : Origin) (begun : List ℕ) (records : List Record) (world : WorldState) : Type 0 where
  pub spans : world.spans ≡ o.world.spans ++ begun
  pub ticks : world.spent + left_of begun world.left ≡ o.world.spent + sum begun
  pub cycles : world.cycles + length begun ≡ o.world.cycles
  pub counted : cycles_in records ≡ cycles_in o.records + length begun

-- From one moment to a later one no power cycle is left, and each that began is spent to its end.
pub record IsSpent (old new : WorldState) : Type 0 where
  pub none : new.cycles ≡ 0
  pub begun : List ℕ
  pub spans : new.spans ≡ old.spans ++ begun
  pub ticks : new.spent ≡ old.spent + sum begun

-- ---- the whole

-- the records of the history, the board's memory and the outside
pub record Moment : Type 0 where
  pub records : List Record
  pub fram : Contents
  pub world : WorldState

abbrev pub now : List Record → Contents → WorldState → Moment
now records fram world = record { records = records; fram = fram; world = world }

-- What holds at each moment of a playing. The records that it added have this form. They have the readings that the outside
-- gave since, in order, and an `On` for each power cycle that began. Each of them is right. The memory recovers to the last
-- commit, or to what it recovered to as the playing began, and that is where the machine is on the committed
-- readings after the instructions up to that commit: its registers, working segment, marks and settled bytes are the same.
-- What the history shows at its last commit is what that memory shows.
pub record Keeps (o : Origin) (form : Phase → Type 0) (standing : IdealEnd → Type 0) (c : Cursor) (a : Moment) : Type 0 where
  pub added : a.records ≡ o.records ++ added_in o a.records
  pub form_is : form (phase_of (cycles_in o.records) (added_in o a.records))
  pub reads : a.world.readings ≡ o.world.readings ++ reads_of (added_in o a.records)
  pub power : Powers o c.begun a.records a.world
  pub right : AreRight o (beginning (first_point o)) (first_cursor o) (added_in o a.records) c
  pub number : (story_in o a.records).last.number ≡ commits_of (kept_in a.fram)
  pub marks : (story_in o a.records).last.marks ≡ marks_of (kept_in a.fram)
  pub shown : ShowsSame (story_in o a.records).last.display (shown_in o.scalars a.fram)
  -- without a commit the memory recovers to what it did as the playing began
  pub uncommitted : length (story_in o a.records).earlier ≡ 0 → kept_in a.fram ≡ kept_in o.fram
  pub machine : Always o (story_in o a.records).last.readings (story_in o a.records).last.instrs
      (HasRecovered standing o.world.period (words_of a.fram.words))
  -- each instruction and each commit took a tick at least, and so did each mark
  pub instrs_later : (story_in o a.records).last.instrs + o.world.spent ≤ a.world.spent
  pub marks_later : marks_of (kept_in a.fram) + o.world.spent ≤ marks_of (kept_in o.fram) + a.world.spent
  pub commits_later : commits_of (kept_in a.fram) + o.world.spent ≤ commits_of (kept_in o.fram) + a.world.spent
  pub period : a.world.period ≡ o.world.period
  pub well_formed : IsWellFormed (words_of a.fram.words)
  pub shut : IsShut (kept_in a.fram)
  pub poked : a.fram.poked ≡ o.fram.poked

-- All of this holds, and as many entries are valid as the next boot is to find, where no power cycle goes on.
pub record Plays (o : Origin) (form : Phase → Type 0) (standing : IdealEnd → Type 0) (a : Moment) : Type 0 where
  pub cursor : Cursor
  pub keeps : Keeps o form standing cursor a
  pub valid : IsAtRest (phase_of (cycles_in o.records) (added_in o a.records)) → count_of (words_of a.fram.words) ≡ cursor.valid

-- a board that can be played: marks and commits can be counted on, and no expires block is open
pub record IsPlayable (machine : Machine) : Type 0 where
  pub marks : marks_of machine < 2 ^ 31
  pub commits : commits_of machine < 2 ^ 31
  pub shut : IsShut machine
