-- A service on the board and the machine with unbroken power.
use Rattle.std.specs.Prelude.{◌≡◌, ℕ, ◌+◌, ◌*◌, ◌<◌, nat_eq, if◌then◌else◌, List, None, is_some, IfSome}
use Rattle.base16.specs.declared.reading.Reading.{Reading}
use Rattle.core430.specs.Registers.{view_of}
use Rattle.board_map.specs.Map.{count_of}
use Rattle.board_map.specs.Recovered.{recovered}
use Rattle.board_map.specs.declared.work.Work.{Work}
use Rattle.ideal430.specs.Ideal.{Meter, Ideal, did, with_left}
use Rattle.ideal430.specs.Agreement.{Agrees}
use Rattle.ideal430.specs.Service.{Effect}
use Rattle.ideal430.specs.declared.state.IdealEnd.{IdealEnd}
use Rattle.ideal430.specs.declared.state.IdealEnd.TheVariants.{Running, Ended}
use Rattle.services.specs.Serving.{stores_cut, committed_in}
use Rattle.services.specs.declared.acting.Committed.{Committed}
use Rattle.services.specs.declared.serving.Served.{Served}
use Rattle.services.specs.declared.serving.Served.TheVariants as served
use Rattle.world.specs.World.{WorldState}

-- The machine stands where the board does: registers, working segment and marks are the same, no block is open, and the
-- words agree on the bytes that count. It has these readings left to take, and its run stands so.
pub record StandsAt (t : Ideal) (standing : IdealEnd) (rest : List Reading) (registers : List ℕ) (m : ℕ → ℕ)
    (work : Work) : Type 0 where
  pub agrees : Agrees t (view_of registers) m work.segment None work.marks
  pub left : t.left ≡ rest
  pub status : t.status ≡ standing

-- it stands where a service left the board, unless power failed
abbrev pub Follows : Served → (t : Ideal) → List Reading → (registers : List ℕ) (m : ℕ → ℕ) → Work → Type 0
Follows (served.Done c) t rest registers m work = StandsAt t Running rest registers m work
Follows served.Off t rest registers m work = Unit {0}
Follows (served.End kind c) t rest registers m work = StandsAt t (Ended kind) rest registers m work

-- The machine stands where the memory recovers to: registers, working segment and marks, and the words on the bytes that
-- count; no block is open.
abbrev pub Fits : (t : Ideal) (m : ℕ → ℕ) → Type 0
Fits t m = Agrees t (recovered m).registers (recovered m).memory ((recovered m).state 0) None
    ((recovered m).state 3 + 65536 * (recovered m).state 4)

-- What the machine counts is what the board counts: ticks since the last commit or the end of the last boot, entries of the
-- undo log, commits, length of the block log, period.
pub record Counts (t : Ideal) (m : ℕ → ℕ) (work : Work) (world : WorldState) : Type 0 where
  pub ticks : work.since + t.meter.ticks ≡ world.spent
  pub entries : t.meter.entries ≡ count_of m
  pub commits : t.meter.commits ≡ work.commits
  pub length : t.meter.length ≡ work.block_length
  pub period : t.meter.period ≡ world.period

-- A commit was over just now, since so many ticks were spent at the one before or at the end of the last boot, and cleared
-- the entries of the undo log: the machine's mark that was due took these ticks, and had these entries.
pub record CountsDue (since : ℕ) (meter : Meter) (world : WorldState) (c : Committed) : Type 0 where
  pub ticks : since + meter.due_ticks ≡ world.spent
  pub entries : meter.due_entries ≡ c.log

-- The machine counts so after a service that was found with this work state, and has committed exactly where the board did.
pub record CountsAlike (t v : Ideal) (answer : Served) (work : Work) (m : ℕ → ℕ) (work2 : Work)
    (world2 : WorldState) : Type 0 where
  pub counts : Counts v m work2 world2
  pub commits : v.meter.commits ≡ (if is_some (committed_in answer) then t.meter.commits + 1 else t.meter.commits)
  pub due : IfSome (committed_in answer) (CountsDue work.since v.meter world2)

-- the ticks behind so many commits: up to the next mark that was due, with its commit, where one was, and else all
abbrev pub ticks_behind : (commits : ℕ) → Meter → ℕ
ticks_behind commits meter = if nat_eq meter.commits commits then meter.ticks else meter.due_ticks

-- Power failed in a service, which was found with this work state and ends here: the machine's own service, from t to v, has
-- an effect that takes longer with its commit, and the entries of it that were completed are valid.
pub record CutsShort (t v : Ideal) (rest : List Reading) (work : Work) (world : WorldState) (m2 : ℕ → ℕ)
    (world2 : WorldState) : Type 0 where
  pub effect : Effect
  pub is : v ≡ did (with_left t rest) effect
  pub ticks : world2.spent < work.since + ticks_behind work.commits v.meter
  pub valid : count_of m2 ≡ t.meter.entries + stores_cut t.segment effect.stores world.left
