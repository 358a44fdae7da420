-- The text of a trace: what each line says, and what all lines say.
use Rattle.std.specs.Prelude.{ℕ, ⊤, IfSome, ◌<◌, ◌≤◌, ◌+◌, ◌*◌, ◌/◌, ◌^◌, ◌==◌, ◌&&◌, Bool, true, false, List, [], ◌∷◌, ◌++◌, Option, Some, None, Result, Ok, Err, codes, length, flat_map, replicate, sum_by, unwrap_or, is_some, nat_lt, nat_le, zero, suc, if◌then◌else◌}
use Rattle.std.specs.Option.{option_map, option_and_then}
use Rattle.std.specs.Str.{bytes_eq}
use Rattle.std.specs.Str.Lines.{lines}
use Rattle.world.specs.Plan.{Plan}
use Rattle.world.specs.Text.{fields, is_padded, is_skipped, number_in}
use Rattle.world.specs.declared.cycle.PowerCycle.{PowerCycle}
use Rattle.world.specs.declared.entry.Entry.{Entry}
use Rattle.world.specs.declared.entry.Entry.TheVariants as entries
use Rattle.world.specs.declared.entry.SenseLine.{SenseLine}
use Rattle.world.specs.declared.entry.CycleLine.{CycleLine}
use Rattle.world.specs.declared.error.TraceErr.{TraceErr}
use Rattle.world.specs.declared.error.TraceErr.TheVariants.{BadLine, TooLong}
use Rattle.world.specs.declared.draft.Draft.{Draft}

-- `start MS`, the clock at the beginning
abbrev pub start_of : List (List ℕ) → Option Entry
start_of (ms ∷ []) = option_map (λ n. entries.Start n) (number_in 0 2147483647 ms)
start_of [] = None
start_of (ms ∷ more ∷ args) = None

-- `rate TICKS`, the ticks in a millisecond
abbrev pub rate_of : List (List ℕ) → Option Entry
rate_of (ticks ∷ []) = option_map (λ n. entries.Rate n) (number_in 1 4000000 ticks)
rate_of [] = None
rate_of (ticks ∷ more ∷ args) = None

-- `period TICKS`, the ticks between two checkpoints
abbrev pub period_of : List (List ℕ) → Option Entry
period_of (ticks ∷ []) = option_map (λ n. entries.Period n) (number_in 1 4000000 ticks)
period_of [] = None
period_of (ticks ∷ more ∷ args) = None

-- the values of a sensor, each up to 65535
abbrev pub values_of : List (List ℕ) → Option (List ℕ)
values_of [] = Some []
values_of (field ∷ args) = option_and_then (λ value. option_map (λ values. value ∷ values) (values_of args)) (number_in 0 65535 field)

-- `sense CHANNEL VALUE ..`, more values of a channel
abbrev pub sense_with : List (List ℕ) → ℕ → Option Entry
sense_with args channel = option_map (λ values. entries.Sense (record { channel = channel; values = values })) (values_of args)

abbrev pub sense_of : List (List ℕ) → Option Entry
sense_of [] = None
sense_of (channel ∷ []) = None
sense_of (channel ∷ value ∷ args) = option_and_then (sense_with (value ∷ args)) (number_in 0 15 channel)

-- `cycle TICKS OFF [COUNT]`, equal power cycles
abbrev pub cycle_with : Option ℕ → Option ℕ → Option ℕ → Option Entry
cycle_with ticks off count =
    option_and_then (λ t. option_and_then (λ o. option_map (λ c. entries.Cycle (record { ticks = t; off = o; count = c })) count) off) ticks

abbrev pub cycle_of : List (List ℕ) → Option Entry
cycle_of [] = None
cycle_of (ticks ∷ []) = None
cycle_of (ticks ∷ off ∷ []) = cycle_with (number_in 0 4000000 ticks) (number_in 0 2147483647 off) (Some 1)
cycle_of (ticks ∷ off ∷ count ∷ []) = cycle_with (number_in 0 4000000 ticks) (number_in 0 2147483647 off) (number_in 1 10000 count)
cycle_of (ticks ∷ off ∷ count ∷ more ∷ args) = None

-- what the fields of a line say, if they say something
unfoldable pub entry_of : List (List ℕ) → Option Entry
entry_of [] = None
entry_of (word ∷ args) =
    if bytes_eq word (codes "start") then start_of args
    else if bytes_eq word (codes "rate") then rate_of args
    else if bytes_eq word (codes "period") then period_of args
    else if bytes_eq word (codes "sense") then sense_of args
    else if bytes_eq word (codes "cycle") then cycle_of args
    else None

-- a rate or a period: 1 to 4,000,000 ticks
abbrev pub IsTicks : ℕ → Type 0
IsTicks ticks = (0 < ticks) × (ticks ≤ 4000000)

abbrev pub IsRanged : Entry → Type 0
IsRanged (entries.Start ms) = ⊤
IsRanged (entries.Rate ticks) = IsTicks ticks
IsRanged (entries.Period ticks) = IsTicks ticks
IsRanged (entries.Sense line) = ⊤
IsRanged (entries.Cycle line) = ⊤

-- the rate and the period, where they were said, are in their ranges
abbrev pub HasRanges : Draft → Type 0
HasRanges d = IfSome d.rate IsTicks × IfSome d.period IsTicks

-- What the lines of a trace have said so far; `begun` where its first line came.
abbrev pub with_start : Draft → ℕ → Option Draft
with_start d ms = if is_some d.start then None else Some (record d { start = Some ms })

abbrev pub with_rate : Draft → ℕ → Option Draft
with_rate d ticks = if is_some d.rate then None else Some (record d { rate = Some ticks })

abbrev pub with_period : Draft → ℕ → Option Draft
with_period d ticks = if is_some d.period then None else Some (record d { period = Some ticks })

-- one line more, unless it says a second time what may be said once
abbrev pub with_entry : Draft → Entry → Option Draft
with_entry d (entries.Start ms) = with_start d ms
with_entry d (entries.Rate ticks) = with_rate d ticks
with_entry d (entries.Period ticks) = with_period d ticks
with_entry d (entries.Sense line) = Some (record d { senses = d.senses ++ line ∷ [] })
with_entry d (entries.Cycle line) = Some (record d { cycles = d.cycles ++ line ∷ [] })

-- the first line is `tics-trace 1`
abbrev pub is_first : List (List ℕ) → Bool
is_first [] = false
is_first (word ∷ []) = false
is_first (word ∷ version ∷ []) = bytes_eq word (codes "tics-trace") && bytes_eq version (codes "1")
is_first (word ∷ version ∷ more ∷ args) = false

unfoldable pub with_fields : Draft → List (List ℕ) → Option Draft
with_fields d args =
    if d.begun then option_and_then (with_entry d) (entry_of args)
    else if is_first args then Some (record d { begun = true }) else None

unfoldable pub with_line : Draft → List ℕ → Option Draft
with_line d line = if is_skipped line then Some d else if is_padded line then None else with_fields d (fields line)

-- what the lines from number n on say after d, or the number of the first bad one
abbrev pub or_bad : ℕ → (Draft → Result Draft TraceErr) → Option Draft → Result Draft TraceErr
or_bad n next None = Err (BadLine n)
or_bad n next (Some d) = next d

abbrev pub read_from : ℕ → Draft → List (List ℕ) → Result Draft TraceErr
read_from n d [] = if d.begun then Ok d else Err (BadLine 1)
read_from n d (line ∷ more) = or_bad n (λ next. read_from (n + 1) next more) (with_line d line)

-- no line is read yet
abbrev pub no_line : Draft
no_line = record { begun = false; start = None; rate = None; period = None; senses = []; cycles = [] }

-- the totals of a trace
abbrev pub start_clock : Draft → ℕ
start_clock d = unwrap_or d.start 0

abbrev pub ticks_in_ms : Draft → ℕ
ticks_in_ms d = unwrap_or d.rate 1000

abbrev pub all_cycles : Draft → ℕ
all_cycles d = sum_by (λ c. c.count) d.cycles

abbrev pub all_ticks : Draft → ℕ
all_ticks d = sum_by (λ c. c.ticks * c.count) d.cycles

abbrev pub all_off : Draft → ℕ
all_off d = sum_by (λ c. c.off * c.count) d.cycles

abbrev pub all_values : Draft → ℕ
all_values d = sum_by (λ s. length s.values) d.senses

abbrev pub last_clock : Draft → ℕ
last_clock d = start_clock d + all_ticks d / ticks_in_ms d + all_off d

-- no total is passed
abbrev pub is_within : Draft → Bool
is_within d =
    nat_le (all_cycles d) 10000 && nat_le (all_ticks d) 4000000 && nat_le (all_values d) 65536 && nat_lt (last_clock d) (2 ^ 31)

-- the values of a channel, those of all its lines one after another
abbrev pub channel_of : List SenseLine → ℕ → List ℕ
channel_of senses channel = flat_map (λ s. if s.channel == channel then s.values else []) senses

unfoldable pub channels_below : ℕ → List SenseLine → List (List ℕ)
channels_below zero senses = []
channels_below (suc n) senses = channels_below n senses ++ channel_of senses n ∷ []

-- each line stands for as many cycles as it counts
abbrev pub copies_of : CycleLine → List PowerCycle
copies_of c = replicate c.count (record { ticks = c.ticks; off = c.off })

abbrev pub cycles_of : List CycleLine → List PowerCycle
cycles_of = flat_map copies_of

unfoldable pub plan_of : Draft → Plan
plan_of d = record {
  start = start_clock d;
  rate = ticks_in_ms d;
  period = unwrap_or d.period 1000;
  channels = channels_below 16 d.senses;
  cycles = cycles_of d.cycles;
}

abbrev pub plan_within : Bool → Draft → Result Plan TraceErr
plan_within short d = if short && is_within d then Ok (plan_of d) else Err TooLong

abbrev pub plan_read : Bool → Result Draft TraceErr → Result Plan TraceErr
plan_read short (Ok d) = plan_within short d
plan_read short (Err e) = Err e

-- what a trace says, or why it is refused: the first bad line, and where no line is bad a total that is passed
unfoldable pub trace_of : List ℕ → Result Plan TraceErr
trace_of text = plan_read (nat_le (length text) 1048576) (read_from 1 no_line (lines text))
