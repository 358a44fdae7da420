-- What a trace says of the outside.
use Rattle.std.specs.Prelude.{◌≡◌, ℕ, ◌+◌, ◌/◌, ◌^◌, ◌<◌, ◌≤◌, List, length, sum_by}
use Rattle.world.specs.declared.cycle.PowerCycle.{PowerCycle}

pub record Plan : Type 0 where
  -- the clock at the beginning, in milliseconds
  pub start : ℕ
  -- ticks in a millisecond
  pub rate : ℕ
  -- ticks between two checkpoints that the user asks for
  pub period : ℕ
  -- the values of each sensor channel in order, channels 0 to 15
  pub channels : List (List ℕ)
  -- the power cycles in order
  pub cycles : List PowerCycle

-- the ticks of these cycles
abbrev pub ticks_of : List PowerCycle → ℕ
ticks_of = sum_by (λ c. c.ticks)

-- the off times of these cycles in milliseconds
abbrev pub off_of : List PowerCycle → ℕ
off_of = sum_by (λ c. c.off)

-- how many sensor values there are in all channels
abbrev pub values_in : List (List ℕ) → ℕ
values_in = sum_by length

-- the ranges and the totals of a trace
pub record IsPlan (p : Plan) : Type 0 where
  pub rate : 0 < p.rate
  pub rate_most : p.rate ≤ 4000000
  pub period : 0 < p.period
  pub period_most : p.period ≤ 4000000
  pub channels : length p.channels ≡ 16
  pub cycles : length p.cycles ≤ 10000
  pub ticks : ticks_of p.cycles ≤ 4000000
  pub values : values_in p.channels ≤ 65536
  pub clock : p.start + ticks_of p.cycles / p.rate + off_of p.cycles < 2 ^ 31
