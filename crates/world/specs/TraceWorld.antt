-- The outside that a trace stands for.
use Rattle.std.specs.Prelude.{◌≡◌, ℕ, ◌+◌, ◌-◌, ◌/◌, ◌%◌, ◌<◌, ◌≤◌, ◌==◌, Bool, false, List, [], ◌∷◌, Some, length, map, take, min, count_by, nat_le, slice_get, slice_index, slice_index_or}
use Rattle.base16.specs.Readings.{IsReadings}
use Rattle.base16.specs.declared.reading.Reading.{Reading}
use Rattle.base16.specs.declared.reading.Reading.TheVariants.{Sense, Clock}
use Rattle.world.specs.Plan.{Plan, IsPlan, ticks_of, off_of}
use Rattle.world.specs.World.{WorldState, last_clock_of}

-- the values of a channel
abbrev pub values_of : Plan → ℕ → List ℕ
values_of p channel = slice_index_or p.channels channel []

-- the value at a place of a channel: the last one repeats, and a channel without values gives 0
abbrev pub value_at : List ℕ → ℕ → ℕ
value_at values place = slice_index values (min place (length values - 1))

-- whether a reading is a value of this channel
abbrev pub is_of : ℕ → Reading → Bool
is_of channel (Sense c value) = c == channel
is_of channel (Clock ms) = false

-- how many values of a channel are among these readings
abbrev pub given_of : ℕ → List Reading → ℕ
given_of channel readings = count_by (is_of channel) readings

-- the next value of a channel after these readings
abbrev pub next_value : Plan → List Reading → ℕ → ℕ
next_value p readings channel = value_at (values_of p channel) (given_of channel readings)

-- Each sensor reading is the next value of its channel: in the trace's order, and none is given again.
abbrev pub AreNext : Plan → List Reading → Type 0
AreNext p readings = (i channel value : ℕ) → slice_get readings i ≡ Some (Sense channel value)
    → value ≡ next_value p (take i readings) channel

-- the clock where so many ticks were spent and so many power cycles have begun: those but the last have ended
abbrev pub clock_at : Plan → ℕ → ℕ → ℕ
clock_at p spent begun = p.start + spent / p.rate + off_of (take (begun - 1) p.cycles)

-- the number, from 1, of the power cycle in which the reading at a place was given, where `firsts` has how many readings
-- had been given when each cycle began
abbrev pub cycle_of : List ℕ → ℕ → ℕ
cycle_of firsts i = count_by (λ n. nat_le n i) firsts

-- Each clock reading is the clock at its tick in its power cycle.
abbrev pub AreClocks : Plan → List Reading → List ℕ → List ℕ → Type 0
AreClocks p readings times firsts =
    (i ms spent : ℕ) → slice_get readings i ≡ Some (Clock ms) → slice_get times i ≡ Some spent
    → ms ≡ clock_at p spent (cycle_of firsts i)

-- the cycles that have begun did so before the readings that are still to come
abbrev pub AreBegun : List ℕ → ℕ → Type 0
AreBegun [] given = Unit {0}
AreBegun (n ∷ firsts) given = (n ≤ given) × AreBegun firsts given

-- The state is one of the outside that its plan stands for.
pub record Follows (s : WorldState) : Type 0 where
  pub plan : IsPlan s.plan
  pub period : s.period ≡ s.plan.period
  pub cycles : length s.spans + s.cycles ≡ length s.plan.cycles
  pub spans : s.spans ≡ map (λ c. c.ticks) (take (length s.spans) s.plan.cycles)
  pub power : s.spent + s.left ≤ ticks_of (take (length s.spans) s.plan.cycles)
  pub clock : s.clock ≡ clock_at s.plan s.spent (length s.spans)
  pub senses : AreNext s.plan s.readings
  pub firsts : length s.firsts ≡ length s.spans
  pub clocks : AreClocks s.plan s.readings s.times s.firsts

-- the state after so many power cycles have begun
abbrev pub world_of : Plan → ℕ → ℕ → ℕ → ℕ → List Reading → List ℕ → List ℕ → WorldState
world_of p begun spent left clock readings times firsts = record {
  plan = p;
  spent = spent;
  left = left;
  clock = clock;
  period = p.period;
  cycles = length p.cycles - begun;
  readings = readings;
  times = times;
  firsts = firsts;
  spans = map (λ c. c.ticks) (take begun p.cycles);
}

-- what the world that plays a trace keeps: ticks until the next millisecond, and how many values each channel gave
pub record Kept (p : Plan) (b s l c u : ℕ) (k : List ℕ) (rs : List Reading) (ts fs : List ℕ) : Type 0 where
  pub plan : IsPlan p
  pub begun : b ≤ length p.cycles
  pub power : s + l ≤ ticks_of (take b p.cycles)
  pub clock : c ≡ clock_at p s b
  pub until : u + s % p.rate ≡ p.rate
  pub given : length rs ≤ s
  pub timed : length ts ≡ length rs
  pub taken : (channel : ℕ) → channel < 16 → slice_index k channel ≡ given_of channel rs
  pub senses : AreNext p rs
  pub clocks : AreClocks p rs ts fs
  pub firsts : length fs ≡ b
  pub before : AreBegun fs (length rs)
  pub readings : IsReadings rs
  pub last : last_clock_of 0 rs ≤ c
