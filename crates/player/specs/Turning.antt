-- What holds within a power cycle, and what one turn of the running program comes to.
use Rattle.std.specs.Prelude.{◌≡◌, ◌⊎◌, ℕ, ◌+◌, ◌<◌, ◌≤◌, false, List, [], ◌∷◌, ◌++◌, map, length, slice_index, Option, Some, None}
use Rattle.base16.specs.Memory.{words_of}
use Rattle.base16.specs.declared.end.EndKind.{EndKind}
use Rattle.base16.specs.declared.image.Scalar.{Scalar}
use Rattle.base16.specs.declared.reading.Reading.{Reading}
use Rattle.board_map.specs.Costs.{boot_cost}
use Rattle.board_map.specs.Map.{count_of}
use Rattle.board_map.specs.declared.work.Work.{Work}
use Rattle.core430.specs.Registers.{view_of}
use Rattle.display.specs.Display.{display_of}
use Rattle.display.specs.Log.{shown_before}
use Rattle.display.specs.Sets.{sets_between}
use Rattle.ideal430.specs.Agreement.{Agrees}
use Rattle.ideal430.specs.Ideal.{Ideal}
use Rattle.ideal430.specs.Service.{taken_of}
use Rattle.ideal430.specs.declared.state.IdealEnd.TheVariants.{Running}
use Rattle.player.specs.Form.{Phase, Between, Within, is_power, cycles_in}
use Rattle.player.specs.Playing.{Origin, marks_of, commits_of, kept_in, story_in, IsRunning, IsAny, OnGoing, IsOff, IsCause, Always, readings_so_far, Moment, Keeps}
use Rattle.player.specs.Ticks.{Cursor, cut}
use Rattle.player.specs.declared.turning.Turn.{Turn}
use Rattle.player.specs.declared.turning.Turn.TheVariants as turn
use Rattle.services.specs.Following.{Counts}
use Rattle.services.specs.Serving.{IsReady, ask_found, committed_in, Serves}
use Rattle.services.specs.declared.acting.Committed.{Committed}
use Rattle.services.specs.declared.serving.Served.{Served}
use Rattle.services.specs.declared.serving.Served.TheVariants as served
use Rattle.world.specs.World.{WorldState}
use Rattle.world.specs.declared.history.Record.{Record}
use Rattle.world.specs.declared.history.Record.TheVariants.{Read, Commit}
use Rattle.world.specs.declared.history.Shown.{Shown}

-- ---- between turns

-- Between two power cycles, and within one that this playing began.
abbrev pub IsBetweenCycles : List Record → Phase → Type 0
IsBetweenCycles records phase = phase ≡ Between (cycles_in records)

abbrev pub IsInCycle : Origin → List Record → Phase → Type 0
IsInCycle o records phase = (phase ≡ Within (cycles_in records)) × (cycles_in o.records < cycles_in records)

-- The program has not ended. So many instructions had been made at the last commit, where a boot goes on.
pub record Rests (o : Origin) (form : Phase → Type 0) (instrs : ℕ) (c : Cursor) (a : Moment) : Type 0 where
  pub keeps : Keeps o form IsRunning c a
  pub instrs_are : (story_in o a.records).last.instrs ≡ instrs

-- it rests within a power cycle
abbrev pub RestsAt : Origin → (instrs : ℕ) → Cursor → Moment → Type 0
RestsAt o instrs c a = Rests o (IsInCycle o a.records) instrs c a

abbrev pub RestsWithin : Origin → (instrs : ℕ) → Moment → Type 0
RestsWithin o instrs a = (c : Cursor) × RestsAt o instrs c a

-- it rests between two power cycles, and the entries are valid that the next boot is to find
pub record RestsBetween (o : Origin) (instrs : ℕ) (a : Moment) : Type 0 where
  pub cursor : Cursor
  pub rests : Rests o (IsBetweenCycles a.records) instrs cursor a
  pub valid : count_of (words_of a.fram.words) ≡ cursor.valid

-- no tick of a power cycle that began is left
abbrev pub IsIdle : Origin → List Record → WorldState → Type 0
IsIdle o records w = (cycles_in records ≡ cycles_in o.records) ⊎ (w.left ≡ 0)

-- a power cycle has just begun, and no tick of it is spent
pub record Begins (o : Origin) (instrs : ℕ) (a : Moment) : Type 0 where
  pub cursor : Cursor
  pub rests : RestsAt o instrs cursor a
  pub going : OnGoing (story_in o a.records).going (λ attempt. attempt.readings ≡ [])
  pub span : cursor.span ≡ a.world.left
  pub at : cursor.at ≡ boot_cost (words_of a.fram.words)
  pub valid : count_of (words_of a.fram.words) ≡ cursor.valid

-- the machine is where the board is, and counts what it counts
pub record HasCome (registers : List ℕ) (work : Work) (m : ℕ → ℕ) (world : WorldState) (t : Ideal) : Type 0 where
  pub runs : t.status ≡ Running
  pub agrees : Agrees t (view_of registers) m work.segment None work.marks
  pub counts : Counts t m work world

-- The program runs: so many instructions are made, and the machine is where the board is on the readings so far.
pub record Goes (o : Origin) (instrs here : ℕ) (registers : List ℕ) (work : Work) (a : Moment) : Type 0 where
  pub cursor : Cursor
  pub rests : RestsAt o instrs cursor a
  -- the boot or the last commit was over at that tick of the power cycle
  pub since : work.since + cursor.span ≡ a.world.spent + a.world.left + cursor.at
  pub later : work.since ≤ a.world.spent
  pub going : OnGoing (story_in o a.records).going (λ attempt. Unit {0})
  pub ready : IsReady (words_of a.fram.words) work
  pub number : work.commits ≡ commits_of (kept_in a.fram)
  pub marks_later : work.marks + o.world.spent ≤ marks_of (kept_in o.fram) + a.world.spent
  pub here_later : here + o.world.spent ≤ a.world.spent
  pub machine : Always o (readings_so_far (story_in o a.records)) here
      (HasCome registers work (words_of a.fram.words) a.world)

-- power failed: no tick is left
pub record IsCut (o : Origin) (instrs : ℕ) (a : Moment) : Type 0 where
  pub cursor : Cursor
  pub rests : RestsAt o instrs cursor a
  pub none : a.world.left ≡ 0
  pub off : IsOff o (story_in o a.records) cursor (cut cursor (count_of (words_of a.fram.words)))

-- the run is over in this way
pub record Ends (o : Origin) (kind : EndKind) (a : Moment) : Type 0 where
  pub cursor : Cursor
  pub keeps : Keeps o (IsInCycle o a.records) IsAny cursor a
  pub own : is_power kind ≡ false
  pub cause : IsCause o (story_in o a.records) cursor kind

-- what a turn came to
abbrev pub Turned : Turn → Origin → (instrs here : ℕ) (registers : List ℕ) → Work → Moment → Type 0
Turned turn.Goes o instrs here registers work a = Goes o instrs here registers work a
Turned turn.Off o instrs here registers work a = IsCut o instrs a
Turned (turn.End kind) o instrs here registers work a = Ends o kind a

abbrev pub OnGoes : Turn → Type 0 → Type 0
OnGoes turn.Goes P = P
OnGoes turn.Off P = Unit {0}
OnGoes (turn.End kind) P = Unit {0}

-- what a power cycle came to
abbrev pub Cycled : Option EndKind → Origin → (instrs : ℕ) → Moment → Type 0
Cycled None o instrs a = IsCut o instrs a
Cycled (Some kind) o instrs a = Ends o kind a

-- ---- a service that was recorded

-- the turn that a service's answer leads to
abbrev pub turn_of : Served → Turn
turn_of (served.Done c) = turn.Goes
turn_of served.Off = turn.Off
turn_of (served.End kind c) = turn.End kind

-- the records of readings
abbrev pub read_records : List Reading → List Record
read_records readings = map (λ r. Read r) readings

-- the changes that a commit shows, by the memory behind it: so many entries of the undo log tell what was shown before
abbrev pub sets_behind : List Scalar → (log : ℕ) → (ℕ → ℕ) → List Shown
sets_behind scalars log m = sets_between scalars (shown_before scalars log m) (display_of scalars m)

-- the record of a commit, if one was made, after so many instructions
abbrev pub commit_records : List Scalar → Option Committed → (registers : List ℕ) → Work → (instrs : ℕ) → (ℕ → ℕ) → List Record
commit_records scalars None registers work instrs m = []
commit_records scalars (Some c) registers work instrs m =
    Commit work.commits work.marks instrs (slice_index registers 0) (slice_index registers 1) c.words c.log
    (sets_behind scalars c.log m) ∷ []

abbrev pub instrs_after : Option Committed → (instrs here : ℕ) → ℕ
instrs_after None instrs here = instrs
instrs_after (Some c) instrs here = here

-- Service n was served after so many instructions; its reading is recorded, and then its commit, by these scalars.
pub record IsServed (scalars : List Scalar) (n here : ℕ) (registers : List ℕ) (work : Work) (a : Moment) (instrs : ℕ)
    (result : Turn) (registers2 : List ℕ) (work2 : Work) (b : Moment) (instrs2 : ℕ) : Type 0 where
  pub answer : Served
  pub result_is : result ≡ turn_of answer
  pub serves : Serves n registers (words_of a.fram.words) work a.world answer registers2 (words_of b.fram.words) work2 b.world
  pub records_are : b.records
      ≡ (a.records ++ read_records (taken_of (ask_found n registers (words_of a.fram.words) work) serves.value))
      ++ commit_records scalars (committed_in answer) registers2 work2 here (words_of b.fram.words)
  pub instrs_are : instrs2 ≡ instrs_after (committed_in answer) instrs here
  pub sixteen : length registers2 ≡ 16
  pub poked : b.fram.poked ≡ a.fram.poked
