-- A service on the board: its effect, and a commit exactly where one is due.
use Rattle.std.specs.Prelude.{◌≡◌, ℕ, ◌+◌, ◌-◌, ◌<◌, ◌≤◌, ◌%◌, Bool, true, false, nat_lt, min, if◌then◌else◌, List, [], ◌∷◌, ◌++◌, map, Option, Some, None, Result, OnOk, OnErr, IfOk, IfSome}
use Rattle.base16.specs.Board.{segment_top, stack_end}
use Rattle.base16.specs.declared.reading.Reading.{Reading}
use Rattle.base16.specs.declared.reading.Reading.TheVariants as reading
use Rattle.base16.specs.declared.end.EndKind.TheVariants.{Done}
use Rattle.world.specs.World.{WorldState, IsLawful, Gives}
use Rattle.world.specs.declared.outside.Off.{Off}
use Rattle.fram.specs.Takes.{Takes}
use Rattle.core430.specs.Bytes.{word_address}
use Rattle.core430.specs.Registers.{view_of}
use Rattle.board_map.specs.Costs.{entries_within}
use Rattle.board_map.specs.Map.{undo_log_start, block_log_start, undo_address, count_of, segment_of, in_segment, IsLoggable}
use Rattle.board_map.specs.Recovered.{recovered, machine_of, state_words, lives, put_back}
use Rattle.board_map.specs.WellFormed.{IsWellFormed}
use Rattle.board_map.specs.declared.work.Work.{Work}
use Rattle.ideal430.specs.Costs.{is_logged, store_ticks, stores_ticks, stores_entries, effect_ticks, effect_entries, commit_ticks, due_of, deed_ticks}
use Rattle.ideal430.specs.Service.{Effect, Deed, Refuses, Does, deed_at, ask_at, taken_of, IsNothing, store_in, stores_in, OnDoes}
use Rattle.ideal430.specs.declared.service.Ask.{Ask}
use Rattle.ideal430.specs.declared.service.Ask.TheVariants.{Nothing, Sensor, Clock}
use Rattle.ideal430.specs.declared.service.Store.{Store}
use Rattle.ideal430.specs.declared.service.Store.TheVariants.{Word, Byte, Link}
use Rattle.services.specs.declared.acting.Committed.{Committed}
use Rattle.services.specs.declared.serving.Served.{Served}
use Rattle.services.specs.declared.serving.Served.TheVariants as served

-- ---- stores

-- A word goes to a place that may be logged; a link word above the working segment, where nothing lives.
abbrev pub IsPlaced : (segment : ℕ) → Store → Type 0
IsPlaced segment (Word a w) = IsLoggable a
IsPlaced segment (Byte a v) = IsLoggable (word_address a)
IsPlaced segment (Link a w) = (segment_top segment ≤ a) × (a < stack_end) × (a % 2 ≡ 0)

abbrev pub ArePlaced : (segment : ℕ) → List Store → Type 0
ArePlaced segment [] = Unit {0}
ArePlaced segment (s ∷ rest) = IsPlaced segment s × ArePlaced segment rest

abbrev pub store_entries : (segment : ℕ) → Store → ℕ
store_entries segment s = if is_logged segment s then 1 else 0

-- how many entries are valid then, of stores that begin with so many ticks left
abbrev pub store_cut : (segment : ℕ) → Store → (left : ℕ) → ℕ
store_cut segment s left = if is_logged segment s then entries_within left else 0

abbrev pub stores_cut : (segment : ℕ) → List Store → (left : ℕ) → ℕ
stores_cut segment [] left = 0
stores_cut segment (s ∷ rest) left = store_cut segment s left + stores_cut segment rest (left - store_ticks segment false s)

-- What stores come to, that take so many ticks, make so many entries, of which so many are valid where power failed, and
-- leave these words past the undo log.
pub record Made {T : Type 0} (ticks entries cut : ℕ) (after : ℕ → ℕ) (result : Result T Off) (m m2 : ℕ → ℕ)
    (world world2 : WorldState) : Type 0 where
  pub takes : Takes ticks result world world2
  pub memory : OnOk result ((b : ℕ) → block_log_start ≤ b → m2 b ≡ after b)
  pub recovered : recovered m2 ≡ recovered m
  pub well_formed : IsWellFormed m2
  pub count : OnOk result (count_of m2 ≡ count_of m + entries)
  pub valid : count_of m2 ≡ count_of m + cut
  pub lawful : IsLawful world2

-- one store, where this segment works
abbrev pub MadeStore : {T : Type 0} → (segment : ℕ) → Store → Result T Off → (m m2 : ℕ → ℕ) → (world world2 : WorldState) → Type 0
MadeStore segment s result m m2 world world2 =
    Made (store_ticks segment false s) (store_entries segment s) (store_cut segment s world.left) (store_in m s)
    result m m2 world world2

-- stores one after another
abbrev pub MadeStores : {T : Type 0} → (segment : ℕ) → List Store → Result T Off → (m m2 : ℕ → ℕ) → (world world2 : WorldState)
    → Type 0
MadeStores segment stores result m m2 world world2 =
    Made (stores_ticks segment false stores) (stores_entries segment stores) (stores_cut segment stores world.left)
    (stores_in m stores) result m m2 world world2

-- ---- when a checkpoint is due

-- no expires block is open, since no service is built that opens one
pub record IsClosed (work : Work) : Type 0 where
  pub block : work.block_open ≡ false
  pub length : work.block_length ≡ 0

-- by what the service finds: the ticks spent since the last commit or the end of the last boot, and the entries
abbrev pub due_at : Effect → Work → WorldState → (entries : ℕ) → Bool
due_at e work world entries = due_of work.segment None e (world.spent - work.since) world.period entries work.block_length

-- the ticks of a service, its commit counted where one is due
abbrev pub ticks_at : Deed → Work → WorldState → (entries : ℕ) → ℕ
ticks_at d work world entries = deed_ticks work.segment None d (world.spent - work.since) world.period entries work.block_length

-- the ticks of an effect, its commit counted
abbrev pub ticks_of : (due : Bool) → Effect → Work → ℕ
ticks_of due e work = effect_ticks work.segment None e + (if due then commit_ticks else 0)

-- ---- what is left behind

-- 155 words, and as many entries as there were just before
abbrev pub committed_of : (due : Bool) → (entries : ℕ) → Option Committed
committed_of due entries = if due then Some (record { words = 155; log = entries }) else None

-- the work state after an effect without its commit
abbrev pub moved : Effect → Work → Work
moved e work = record work { segment = e.segment; marks = if e.marks then work.marks + 1 else work.marks }

-- the work state after a commit
abbrev pub committed_work : (due : Bool) → (spent : ℕ) → Work → Work
committed_work due spent work =
    record work { commits = if due then work.commits + 1 else work.commits; since = if due then spent else work.since }

abbrev pub work_after : Effect → (due : Bool) → (spent : ℕ) → Work → Work
work_after e due spent work = committed_work due spent (moved e work)

-- The memory recovers to what stands: these registers, this work state, these words. The clock is one between old and
-- new, as the commit began, and no entry is valid.
pub record IsCommitted (old new : WorldState) (registers : List ℕ) (work : Work) (m : ℕ → ℕ) : Type 0 where
  pub clock : ℕ
  pub begun : old.clock ≤ clock
  pub over : clock ≤ new.clock
  pub is : recovered m ≡ machine_of registers
      (state_words work.segment (if work.block_open then 1 else 0) work.block_length work.marks work.commits clock) m
  pub no_entries : count_of m ≡ 0

-- The undo log still tells the words of the commit before: so many entries put back give the words that lived outside the
-- segment that worked.
pub record Tells (log : ℕ) (old new : ℕ → ℕ) : Type 0 where
  pub back : (b : ℕ) → lives old b ≡ true → in_segment (segment_of old) b ≡ false
      → put_back (λ i. new (undo_address i)) (λ i. new (undo_address i + 2)) log new b ≡ (recovered old).memory b

-- No commit was made: the memory recovers as before, and so many entries are valid.
pub record IsUncommitted (old new : ℕ → ℕ) (entries : ℕ) : Type 0 where
  pub recovered : recovered new ≡ recovered old
  pub count : count_of new ≡ entries

-- P where a commit was made, and else Q
abbrev pub OnCommit : Option Committed → Type 0 → Type 0 → Type 0
OnCommit None P Q = Q
OnCommit (Some c) P Q = P

-- a commit, where one is due
pub record Settles (due : Bool) (registers : List ℕ) (m : ℕ → ℕ) (work : Work) (world : WorldState)
    (result : Result (Option Committed) Off) (m2 : ℕ → ℕ) (work2 : Work) (world2 : WorldState) : Type 0 where
  pub takes : Takes (if due then commit_ticks else 0) result world world2
  pub past : (b : ℕ) → undo_log_start ≤ b → m2 b ≡ m b
  pub work_is : OnOk result (work2 ≡ committed_work due world2.spent work)
  pub answer : IfOk result (λ c. c ≡ committed_of due (count_of m))
  pub recovers : IfOk result (λ c. OnCommit c (IsCommitted world world2 registers work2 m2) (IsUncommitted m m2 (count_of m)))
  pub off : OnErr result (IsUncommitted m m2 (count_of m))
  pub well_formed : IsWellFormed m2
  pub lawful : IsLawful world2

-- the stores, the mark and the commit of an effect
pub record Acts (e : Effect) (due : Bool) (registers : List ℕ) (m : ℕ → ℕ) (work : Work) (world : WorldState)
    (result : Result (Option Committed) Off) (m2 : ℕ → ℕ) (work2 : Work) (world2 : WorldState) : Type 0 where
  pub takes : Takes (ticks_of due e work) result world world2
  pub memory : OnOk result ((b : ℕ) → block_log_start ≤ b → m2 b ≡ stores_in m e.stores b)
  pub work_is : OnOk result (work2 ≡ work_after e due world2.spent work)
  pub answer : IfOk result (λ c. c ≡ committed_of due (count_of m + effect_entries work.segment e))
  pub recovers : IfOk result
      (λ c. OnCommit c (IsCommitted world world2 registers work2 m2)
      (IsUncommitted m m2 (count_of m + effect_entries work.segment e)))
  pub tells : IfOk result (λ c. IfSome c (λ k. Tells k.log m m2))
  pub off : OnErr result (IsUncommitted m m2 (count_of m + stores_cut work.segment e.stores world.left))
  pub well_formed : IsWellFormed m2
  pub lawful : IsLawful world2

-- ---- the whole service

-- From old to new so many ticks are spent, and these readings were given before. The clock rises by ticks alone.
pub record Passes (n : ℕ) (taken : List Reading) (old new : WorldState) : Type 0 where
  pub spent : new.spent ≡ old.spent + n
  pub left : old.left ≡ new.left + n
  pub later : old.clock ≤ new.clock
  pub still : n ≡ 0 → new.clock ≡ old.clock
  pub readings : new.readings ≡ old.readings ++ taken
  pub times : new.times ≡ old.times ++ map (λ r. old.spent) taken
  pub plan : new.plan ≡ old.plan
  pub period : new.period ≡ old.period
  pub cycles : new.cycles ≡ old.cycles
  pub spans : new.spans ≡ old.spans
  pub firsts : new.firsts ≡ old.firsts

-- a reading is given where one is asked for
abbrev pub Gets : Ask → ℕ → WorldState → WorldState → Type 0
Gets Nothing value old new = (value ≡ 0) × (new ≡ old)
Gets (Sensor channel) value old new = Gives (reading.Sense channel value) old new
Gets Clock value old new = Gives (reading.Clock value) old new

-- what service n does, and what it asks, found with these registers and words and this work state
abbrev pub deed_found : (n value : ℕ) (registers : List ℕ) (m : ℕ → ℕ) → Work → Deed
deed_found n value registers m work = deed_at n value (view_of registers) m work.segment None

abbrev pub ask_found : (n : ℕ) (registers : List ℕ) (m : ℕ → ℕ) → Work → Ask
ask_found n registers m work = ask_at n (view_of registers) m work.segment None

abbrev pub ended : (ends : Bool) → Option Committed → Served
ended true c = served.End Done c
ended false c = served.Done c

-- Off exactly where fewer ticks are left than it takes
abbrev pub answer_of : Deed → Work → WorldState → (entries : ℕ) → Served
answer_of (Refuses kind) work world entries = served.End kind None
answer_of (Does e) work world entries =
    if nat_lt world.left (ticks_at (Does e) work world entries) then served.Off
    else ended e.ends (committed_of (due_at e work world entries) (entries + effect_entries work.segment e))

-- P where power did not fail, where it did, where the program goes on, where a service is refused
abbrev pub OnPower : Served → Type 0 → Type 0
OnPower (served.Done c) P = P
OnPower served.Off P = Unit {0}
OnPower (served.End kind c) P = P

abbrev pub OnCut : Served → Type 0 → Type 0
OnCut (served.Done c) P = Unit {0}
OnCut served.Off P = P
OnCut (served.End kind c) P = Unit {0}

abbrev pub OnGoes : Served → Type 0 → Type 0
OnGoes (served.Done c) P = P
OnGoes served.Off P = Unit {0}
OnGoes (served.End kind c) P = Unit {0}

abbrev pub OnRefused : Deed → Type 0 → Type 0
OnRefused (Refuses kind) P = P
OnRefused (Does e) P = Unit {0}

-- what the answer says of a commit
abbrev pub committed_in : Served → Option Committed
committed_in (served.Done c) = c
committed_in served.Off = None
committed_in (served.End kind c) = c

-- the effect was made: registers, words past the undo log, work state, and the entries where no commit cleared them
pub record Effected (e : Effect) (m : ℕ → ℕ) (work : Work) (world : WorldState) (c : Option Committed) (registers : List ℕ)
    (m2 : ℕ → ℕ) (work2 : Work) (world2 : WorldState) : Type 0 where
  pub registers_are : view_of registers ≡ e.regs
  pub memory : (b : ℕ) → block_log_start ≤ b → m2 b ≡ stores_in m e.stores b
  pub work_is : work2 ≡ work_after e (due_at e work world (count_of m)) world2.spent work
  pub entries : OnCommit c (count_of m2 ≡ 0) (count_of m2 ≡ count_of m + effect_entries work.segment e)

-- a program that goes on is ready for its next service
pub record IsReady (m : ℕ → ℕ) (work : Work) : Type 0 where
  pub segment : work.segment ≡ segment_of m
  pub room : count_of m + 8 + work.block_length ≤ 256
  pub closed : IsClosed work

-- Service n, found with these registers, words and work state, comes to this answer and leaves these.
pub record Serves (n : ℕ) (registers : List ℕ) (m : ℕ → ℕ) (work : Work) (world : WorldState) (answer : Served)
    (registers2 : List ℕ) (m2 : ℕ → ℕ) (work2 : Work) (world2 : WorldState) : Type 0 where
  -- the value of the reading that it takes, 0 if it takes none
  pub value : ℕ
  pub nothing : IsNothing (ask_found n registers m work) value
  pub answers : answer ≡ answer_of (deed_found n value registers m work) work world (count_of m)
  pub passes : Passes (min world.left (ticks_at (deed_found n value registers m work) work world (count_of m)))
      (taken_of (ask_found n registers m work) value) world world2
  pub refused : OnRefused (deed_found n value registers m work) ((registers2 ≡ registers) × (m2 ≡ m) × (work2 ≡ work))
  pub effect : OnDoes (deed_found n value registers m work)
      (λ e. OnPower answer (Effected e m work world (committed_in answer) registers2 m2 work2 world2))
  -- the entries that were completed where power failed
  pub cut : OnDoes (deed_found n value registers m work)
      (λ e. OnCut answer (count_of m2 ≡ count_of m + stores_cut work.segment e.stores world.left))
  pub recovers : OnCommit (committed_in answer) (IsCommitted world world2 registers2 work2 m2) (recovered m2 ≡ recovered m)
  -- of a commit, the entries say what stood before
  pub tells : IfSome (committed_in answer) (λ c. Tells c.log m m2)
  pub ready : OnGoes answer (IsReady m2 work2)
  pub well_formed : IsWellFormed m2
  pub lawful : IsLawful world2
