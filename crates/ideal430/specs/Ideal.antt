-- The machine with unbroken power: the core, and each service as one effect. It has no undo log, slot, gate or write gate.
use Rattle.std.specs.Prelude.{ℕ, zero, suc, ◌+◌, Bool, false, not, ◌&&◌, ◌||◌, nat_eq, nat_lt, if◌then◌else◌, List, [], ◌∷◌, ◌++◌, map}
use Rattle.base16.specs.declared.reading.Reading.{Reading}
use Rattle.base16.specs.declared.reading.Reading.TheVariants as reading
use Rattle.base16.specs.declared.end.EndKind.TheVariants.{Done, Wild as WildAt}
use Rattle.core430.specs.Registers.{set_reg}
use Rattle.core430.specs.Step.{State, Outcome, Next, Service as Calls, Wild, step}
use Rattle.ideal430.specs.Service.{Block, noted_of, BlockChange, Stays, Opens, Closes, Effect, Deed, Refuses, Does, deed_at, ask_at, stores_in, block_after}
use Rattle.ideal430.specs.declared.service.Ask.{Ask}
use Rattle.ideal430.specs.declared.service.Ask.TheVariants.{Nothing, Sensor, Clock}
use Rattle.ideal430.specs.declared.state.IdealEnd.{IdealEnd}
use Rattle.ideal430.specs.declared.state.IdealEnd.TheVariants.{Running, Ended, NeedsReading}
use Rattle.ideal430.specs.Costs.{is_noting, effect_ticks, effect_entries, commit_ticks, length_after, due_of}
use Rattle.ideal430.specs.Settled.{Bytes, no_bytes, stores_bytes, settled_after, settled_again}
use Rattle.core430.specs.Uses.{step_changes}

-- What the board counts: the ticks and the entries of the undo log since the last mark that was due, how many marks were
-- due, the length of the block log, and the period.
pub record Meter : Type 0 where
  pub ticks : ℕ
  pub entries : ℕ
  pub commits : ℕ
  -- up to the last mark that was due, since the one before: the ticks, with those of its commit, and the entries
  pub due_ticks : ℕ
  pub due_entries : ℕ
  pub length : ℕ
  pub period : ℕ

-- The state of the machine. What stands from `settled` on has no effect on what stands before it.
pub record Ideal : Type 0 where
  pub core : State
  -- the working segment
  pub segment : ℕ
  -- the words noted since an expires block was opened
  pub block : Block
  pub marks : ℕ
  -- the readings that are left to take
  pub left : List Reading
  pub status : IdealEnd
  -- the bytes that count
  pub settled : Bytes
  -- the last stack pointer of each older segment
  pub pointers : ℕ → ℕ
  -- for each noted word the bytes that were settled before its store
  pub earlier : List Bytes
  pub meter : Meter

abbrev pub stopped : Ideal → IdealEnd → Ideal
stopped t status = record t { status = status }

-- ---- an instruction

-- an instruction was made: one tick
abbrev pub moved : Ideal → State → Ideal
moved t s = record t {
  core = s;
  settled = settled_after t.segment (s.regs 1) t.pointers (step_changes t.core) t.settled;
  meter = record t.meter { ticks = t.meter.ticks + 1 };
}

-- ---- a service

-- the bytes that are settled once the return word is popped
abbrev pub settled_popped : Ideal → Bytes
settled_popped t = settled_after t.segment (t.core.regs 1 + 2) t.pointers no_bytes t.settled

-- the bytes that count of those that it writes, and of the others
abbrev pub settled_new : Ideal → Effect → Bytes
settled_new t e = if e.noted then stores_bytes e.stores else settled_again t.segment (noted_of t.block) t.earlier

abbrev pub settled_old : Ideal → Effect → Bytes
settled_old t e b = settled_popped t b && (e.noted || not (stores_bytes e.stores b))

-- the last stack pointer of a segment that is entered from is the one with the return word popped
abbrev pub pointers_after : Ideal → Effect → (ℕ → ℕ)
pointers_after t e = if nat_lt t.segment e.segment then set_reg t.pointers t.segment (t.core.regs 1 + 2) else t.pointers

abbrev pub earlier_by : BlockChange → Bool → List Bytes → List Bytes → List Bytes
earlier_by Opens notes new old = []
earlier_by Closes notes new old = []
earlier_by Stays notes new old = if notes then old ++ new else old

abbrev pub earlier_after : Ideal → Effect → List Bytes
earlier_after t e = earlier_by e.block (is_noting t.block e) (map (λ s. settled_popped t) e.stores) t.earlier

-- the mark is due by what was counted
abbrev pub is_due_at : Ideal → Effect → Bool
is_due_at t e = due_of t.segment t.block e t.meter.ticks t.meter.period t.meter.entries t.meter.length

-- a commit begins the counting anew
abbrev pub meter_after : Ideal → Effect → Meter
meter_after t e = record {
  ticks = if is_due_at t e then 0 else t.meter.ticks + effect_ticks t.segment t.block e;
  entries = if is_due_at t e then 0 else t.meter.entries + effect_entries t.segment e;
  commits = if is_due_at t e then t.meter.commits + 1 else t.meter.commits;
  due_ticks = if is_due_at t e then t.meter.ticks + effect_ticks t.segment t.block e + commit_ticks else t.meter.due_ticks;
  due_entries = if is_due_at t e then t.meter.entries + effect_entries t.segment e else t.meter.due_entries;
  length = length_after t.block e t.meter.length;
  period = t.meter.period;
}

-- a service did something
abbrev pub did : Ideal → Effect → Ideal
did t e = record {
  core = record { regs = e.regs; memory = stores_in t.core.memory e.stores };
  segment = e.segment;
  block = block_after e t.core.memory t.block;
  marks = if e.marks then t.marks + 1 else t.marks;
  left = t.left;
  status = if e.ends then Ended Done else Running;
  settled = settled_after e.segment (e.regs 1) (pointers_after t e) (settled_new t e) (settled_old t e);
  pointers = pointers_after t e;
  earlier = earlier_after t e;
  meter = meter_after t e;
}

-- a refused service leaves the machine as it was found
abbrev pub doing : Ideal → Deed → Ideal
doing t (Refuses kind) = stopped t (Ended kind)
doing t (Does e) = did t e

abbrev pub deed_here : (n value : ℕ) → Ideal → Deed
deed_here n value t = deed_at n value t.core.regs t.core.memory t.segment t.block

abbrev pub ask_here : (n : ℕ) → Ideal → Ask
ask_here n t = ask_at n t.core.regs t.core.memory t.segment t.block

abbrev pub with_left : Ideal → List Reading → Ideal
with_left t rest = record t { left = rest }

-- the next reading, if it is of this channel
abbrev pub sensing : (n : ℕ) → Ideal → (channel : ℕ) → List Reading → Ideal
sensing n t channel [] = stopped t NeedsReading
sensing n t channel (reading.Sense c value ∷ rest) =
    if nat_eq c channel then doing (with_left t rest) (deed_here n value t) else stopped t NeedsReading
sensing n t channel (reading.Clock ms ∷ rest) = stopped t NeedsReading

-- the next reading, if it is the clock's
abbrev pub timing : (n : ℕ) → Ideal → List Reading → Ideal
timing n t [] = stopped t NeedsReading
timing n t (reading.Sense c value ∷ rest) = stopped t NeedsReading
timing n t (reading.Clock ms ∷ rest) = doing (with_left t rest) (deed_here n ms t)

abbrev pub asking : (n : ℕ) → Ideal → Ask → Ideal
asking n t Nothing = doing t (deed_here n 0 t)
asking n t (Sensor channel) = sensing n t channel t.left
asking n t Clock = timing n t t.left

-- service n, as its call leaves the machine
abbrev pub served : (n : ℕ) → Ideal → Ideal
served n t = asking n t (ask_here n t)

-- ---- a run

abbrev pub after : Ideal → Outcome → Ideal
after t (Next s) = moved t s
after t (Calls n s) = served n (moved t s)
after t (Wild a) = stopped t (Ended (WildAt a))

-- no write of an instruction is refused
abbrev pub free : ℕ → Bool
free a = false

abbrev pub next_if : IdealEnd → Ideal → Ideal
next_if Running t = after t (step free t.core)
next_if (Ended kind) t = t
next_if NeedsReading t = t

-- one instruction, with the service that it calls; a machine that has stopped stays as it is
abbrev pub next : Ideal → Ideal
next t = next_if t.status t

-- so many instructions
abbrev pub run : ℕ → Ideal → Ideal
run zero t = t
run (suc n) t = next (run n t)

-- the same machine with more readings to take
abbrev pub with_more : Ideal → List Reading → Ideal
with_more t more = with_left t (t.left ++ more)
