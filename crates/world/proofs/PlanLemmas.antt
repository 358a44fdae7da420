-- What the lines of a trace stand for, in sums.
use Rattle.std.proofs.Common.{◌≡◌, ℕ, ◌+◌, ◌*◌, ◌/◌, ◌<◌, ◌≤◌, ◌^◌, ◌&&◌, nat_eq, nat_le, nat_lt, cond, Bool, true, false, Option, Some, None, unwrap_or, IfSome, lit<, List, [], ◌∷◌, length, replicate, sum_by, zero, suc, refl, ◌∙◌, ap, arith, IsTrue}
use Rattle.std.proofs.lemmas.List.Sums.{sum_by-append, sum_by-cons}
use Rattle.std.proofs.lemmas.List.{length-replicate, length-append}
use Rattle.std.proofs.lemmas.Bool.Decides.{nat_tests}
use borrow.Author.Tests.{ltb-true, leb-true}
use Rattle.world.specs.Plan.{IsPlan, ticks_of, off_of, values_in}
use Rattle.world.specs.TraceFile.{copies_of, cycles_of, channel_of, channels_below, all_values, last_clock, start_clock, ticks_in_ms, all_cycles, all_ticks, all_off, is_within, plan_of, IsTicks, HasRanges}
use Rattle.world.specs.declared.cycle.PowerCycle.{PowerCycle}
use Rattle.world.specs.declared.entry.CycleLine.{CycleLine}
use Rattle.world.specs.declared.entry.SenseLine.{SenseLine}
use Rattle.world.specs.declared.draft.Draft.{Draft}

sum_by-replicate : (f : PowerCycle → ℕ) (n : ℕ) (x : PowerCycle) → sum_by f (replicate n x) ≡ f x * n
sum_by-replicate f zero x = omega arith
sum_by-replicate f (suc n) x = omega (arith, sum_by-replicate f n x, sum_by-cons f x (replicate n x))

-- a sum over the cycles that lines stand for
sum_by-cycles_of : (f : PowerCycle → ℕ) (g : CycleLine → ℕ) → ((c : CycleLine) → sum_by f (copies_of c) ≡ g c) → (lines : List CycleLine) → sum_by f (cycles_of lines) ≡ sum_by g lines
sum_by-cycles_of f g same [] = refl
sum_by-cycles_of f g same (c ∷ lines) =
    omega (arith, sum_by-append f (copies_of c) (cycles_of lines), same c, sum_by-cycles_of f g same lines, sum_by-cons g c lines)

length-copies_of : (c : CycleLine) → length (copies_of c) ≡ c.count
length-copies_of c = length-replicate c.count (record { ticks = c.ticks; off = c.off })

length-cycles_of : (lines : List CycleLine) → length (cycles_of lines) ≡ sum_by (λ c. c.count) lines
length-cycles_of [] = refl
length-cycles_of (c ∷ lines) =
    omega (arith, length-append (copies_of c) (cycles_of lines), length-copies_of c, length-cycles_of lines, sum_by-cons (λ (x : CycleLine). x.count) c lines)

length-channels_below : (n : ℕ) (senses : List SenseLine) → length (channels_below n senses) ≡ n
unfolding channels_below
length-channels_below zero senses = refl
length-channels_below (suc n) senses =
    omega (arith, length-append (channels_below n senses) (channel_of senses n ∷ []), length-channels_below n senses)

all_four : (a b c d : Bool) → IsTrue (a && b && c && d) → (a ≡ true) × (b ≡ true) × (c ≡ true) × (d ≡ true)
all_four true true true true h = (refl, refl, refl, refl)
all_four false b c d h = cc
all_four true false c d h = cc
all_four true true false d h = cc
all_four true true true false h = cc

ranged : (o : Option ℕ) → IfSome o IsTicks → IsTicks (unwrap_or o 1000)
ranged None h = (lit< tt, omega arith)
ranged (Some t) h = h

-- ---- the values of a line count in the channels below n at most once
channel_cons : (s : SenseLine) (senses : List SenseLine) (n : ℕ) → length (channel_of (s ∷ senses) n) ≡ length (cond (nat_eq s.channel n) s.values []) + length (channel_of senses n)
channel_cons s senses n = length-append (cond (nat_eq s.channel n) s.values []) (channel_of senses n)

chosen : (b : Bool) (xs : List ℕ) → length (cond b xs []) ≤ length xs
chosen true xs = omega arith
chosen false xs = omega arith

values_suc : (n : ℕ) (senses : List SenseLine) → values_in (channels_below (suc n) senses) ≡ values_in (channels_below n senses) + length (channel_of senses n)
unfolding channels_below
values_suc n senses = omega (arith, sum_by-append length (channels_below n senses) (channel_of senses n ∷ []), sum_by-cons length (channel_of senses n) [])

other_channel : (s : SenseLine) (n : ℕ) → n < s.channel → nat_eq s.channel n ≡ false
other_channel s n h = grind (arith, nat_tests)

above : (s : SenseLine) (senses : List SenseLine) (n : ℕ) → n ≤ s.channel → values_in (channels_below n (s ∷ senses)) ≡ values_in (channels_below n senses)
unfolding channels_below
above s senses zero h = refl
above s senses (suc n) h =
    let same : length (cond (nat_eq s.channel n) s.values []) ≡ 0 = ap (λ b. length (cond b s.values [])) (other_channel s n (omega arith)) in
    omega (arith, values_suc n (s ∷ senses), values_suc n senses, channel_cons s senses n, same, above s senses n (omega arith))

is_same : (s : SenseLine) (n : ℕ) → nat_eq s.channel n ≡ true → n ≤ s.channel
is_same s n h = grind (arith, nat_tests)

once_by : (s : SenseLine) (senses : List SenseLine) (n : ℕ) (b : Bool) → nat_eq s.channel n ≡ b → values_in (channels_below n (s ∷ senses)) ≤ length s.values + values_in (channels_below n senses)
    → values_in (channels_below (suc n) (s ∷ senses)) ≤ length s.values + values_in (channels_below (suc n) senses)
once_by s senses n true e h =
    omega (arith, values_suc n (s ∷ senses), values_suc n senses, channel_cons s senses n, chosen (nat_eq s.channel n) s.values, above s senses n (is_same s n e))
once_by s senses n false e h =
    let same : length (cond (nat_eq s.channel n) s.values []) ≡ 0 = ap (λ b. length (cond b s.values [])) e in
    omega (arith, values_suc n (s ∷ senses), values_suc n senses, channel_cons s senses n, same, h)

once : (s : SenseLine) (senses : List SenseLine) (n : ℕ) → values_in (channels_below n (s ∷ senses)) ≤ length s.values + values_in (channels_below n senses)
unfolding channels_below
once s senses zero = omega arith
once s senses (suc n) = once_by s senses n (nat_eq s.channel n) refl (once s senses n)

no_values : (n : ℕ) → values_in (channels_below n []) ≡ 0
unfolding channels_below
no_values zero = refl
no_values (suc n) = omega (arith, values_suc n [], no_values n)

few_values : (n : ℕ) (senses : List SenseLine) → values_in (channels_below n senses) ≤ sum_by (λ s. length s.values) senses
few_values n [] = omega (arith, no_values n)
few_values n (s ∷ senses) = omega (arith, once s senses n, few_values n senses, sum_by-cons (λ (x : SenseLine). length x.values) s senses)

pub plan_is_plan : (d : Draft) → HasRanges d → IsTrue (is_within d) → IsPlan (plan_of d)
unfolding plan_of
plan_is_plan d ranges within =
    let t = all_four (nat_le (all_cycles d) 10000) (nat_le (all_ticks d) 4000000) (nat_le (all_values d) 65536) (nat_lt (last_clock d) (2 ^ 31)) within in
    let ticks : ticks_of (cycles_of d.cycles) ≡ all_ticks d =
    sum_by-cycles_of (λ c. c.ticks) (λ c. c.ticks * c.count) (λ c. sum_by-replicate (λ c. c.ticks) c.count (record { ticks = c.ticks; off = c.off })) d.cycles in
    let off : off_of (cycles_of d.cycles) ≡ all_off d =
    sum_by-cycles_of (λ c. c.off) (λ c. c.off * c.count) (λ c. sum_by-replicate (λ c. c.off) c.count (record { ticks = c.ticks; off = c.off })) d.cycles in
    let clock : start_clock d + ticks_of (cycles_of d.cycles) / ticks_in_ms d + off_of (cycles_of d.cycles) ≡ last_clock d =
    ap (λ (n : ℕ). start_clock d + n / ticks_in_ms d + off_of (cycles_of d.cycles)) ticks ∙ ap (λ (n : ℕ). start_clock d + all_ticks d / ticks_in_ms d + n) off in
    let rate = ranged d.rate ranges.0 in
    let period = ranged d.period ranges.1 in
    record {
      rate = rate.0;
      rate_most = rate.1;
      period = period.0;
      period_most = period.1;
      channels = length-channels_below 16 d.senses;
      cycles = omega (arith, leb-true (all_cycles d) 10000 t.0, length-cycles_of d.cycles);
      ticks = omega (arith, leb-true (all_ticks d) 4000000 t.1, ticks);
      values = omega (arith, leb-true (all_values d) 65536 t.2, few_values 16 d.senses);
      clock = omega (arith, ltb-true (last_clock d) (2 ^ 31) t.3, clock);
    }
