-- What the outside is to a program: power, a clock and sensors.
use Rattle.std.specs.Prelude.{◌≡◌, ℕ, ◌+◌, ◌^◌, ◌<◌, ◌≤◌, List, [], ◌∷◌, ◌++◌, length}
use Rattle.std.proofs.Common.{arith}
use Rattle.base16.specs.Readings.{IsReadings}
use Rattle.base16.specs.declared.reading.Reading.{Reading}
use Rattle.base16.specs.declared.reading.Reading.TheVariants.{Sense, Clock}
use Rattle.world.specs.Plan.{Plan}

-- All that the outside is at one moment.
pub record WorldState : Type 0 where
  -- what the outside was made from, which nothing changes
  pub plan : Plan
  -- ticks spent in all
  pub spent : ℕ
  -- ticks left in this power cycle
  pub left : ℕ
  -- the clock in milliseconds
  pub clock : ℕ
  -- the ticks between two checkpoints that the user asks for
  pub period : ℕ
  -- power cycles that have not begun
  pub cycles : ℕ
  -- the readings given so far, in order
  pub readings : List Reading
  -- the ticks spent when each reading was given
  pub times : List ℕ
  -- the ticks of each power cycle that has begun, in order
  pub spans : List ℕ
  -- how many readings had been given when each of them began
  pub firsts : List ℕ

-- the last clock among readings, or `low` where there is none
abbrev pub last_clock_of : ℕ → List Reading → ℕ
last_clock_of low [] = low
last_clock_of low (Sense channel value ∷ rest) = last_clock_of low rest
last_clock_of low (Clock ms ∷ rest) = last_clock_of ms rest

-- The bounds that hold at every moment, and that the readings given are a list of readings whose last clock is not above
-- the clock.
pub record IsLawful (s : WorldState) : Type 0 where
  pub spent : s.spent < 2 ^ 31
  pub clock : s.clock < 2 ^ 31
  pub cycles : s.cycles < 2 ^ 31
  pub given : length s.readings ≤ s.spent
  pub timed : length s.times ≡ length s.readings
  pub readings : IsReadings s.readings
  pub last : last_clock_of 0 s.readings ≤ s.clock

-- From old to new n ticks are spent: the clock may rise then, and all else is the same.
pub record Spends (n : ℕ) (old new : WorldState) : Type 0 where
  pub spent : new.spent ≡ old.spent + n
  pub left : old.left ≡ new.left + n
  pub later : old.clock ≤ new.clock
  pub still : n ≡ 0 → new.clock ≡ old.clock
  pub plan : new.plan ≡ old.plan
  pub period : new.period ≡ old.period
  pub cycles : new.cycles ≡ old.cycles
  pub readings : new.readings ≡ old.readings
  pub times : new.times ≡ old.times
  pub spans : new.spans ≡ old.spans
  pub firsts : new.firsts ≡ old.firsts

-- From old to new one reading is given: it stands behind those before it, with the ticks spent, and all else is the same.
pub record Gives (reading : Reading) (old new : WorldState) : Type 0 where
  pub readings : new.readings ≡ old.readings ++ reading ∷ []
  pub times : new.times ≡ old.times ++ old.spent ∷ []
  pub spent : new.spent ≡ old.spent
  pub left : new.left ≡ old.left
  pub clock : new.clock ≡ old.clock
  pub plan : new.plan ≡ old.plan
  pub period : new.period ≡ old.period
  pub cycles : new.cycles ≡ old.cycles
  pub spans : new.spans ≡ old.spans
  pub firsts : new.firsts ≡ old.firsts

-- From old to new the next power cycle begins: its ticks stand behind those of the cycles before it, the clock may have
-- risen, and all else is the same.
pub record Wakes (old new : WorldState) : Type 0 where
  pub cycles : old.cycles ≡ new.cycles + 1
  pub spans : new.spans ≡ old.spans ++ new.left ∷ []
  pub firsts : new.firsts ≡ old.firsts ++ length old.readings ∷ []
  pub later : old.clock ≤ new.clock
  pub spent : new.spent ≡ old.spent
  pub plan : new.plan ≡ old.plan
  pub period : new.period ≡ old.period
  pub readings : new.readings ≡ old.readings
  pub times : new.times ≡ old.times

-- Where no tick is spent nothing changes, and what is spent adds up.
pub Spends-none : (s : WorldState) → Spends 0 s s
Spends-none s = grind arith

pub Spends-join : {m n : ℕ} {a b c : WorldState} → Spends m a b → Spends n b c → Spends (m + n) a c
Spends-join h k = grind arith
