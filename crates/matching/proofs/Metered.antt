-- What the machine counts has no effect on it, settled bytes included; so the words just behind a mark match the C run's state
-- whatever period the machine counts by.
use Rattle.std.proofs.Common.{◌≡◌, ℕ, zero, suc, ◌+◌, ◌<◌, ◌≤◌, ◌⊎◌, inl, inr, Bool, true, false, List, [], ◌∷◌, refl, sym, ap, ◌∙◌, subst, arith}
use Rattle.std.proofs.lemmas.Bool.{cases_lt}
use Rattle.std.specs.Prelude.{nat_eq, if◌then◌else◌}
use Rattle.base16.specs.declared.reading.Reading.{Reading}
use Rattle.base16.specs.declared.reading.Reading.TheVariants as reading
use Rattle.c_meaning.specs.After.{after}
use Rattle.c_meaning.specs.declared.outcome.CState.{CState}
use Rattle.c_meaning.specs.declared.outcome.CState.TheVariants as state
use Rattle.c_values.specs.declared.state.State.{State as Program}
use Rattle.core430.specs.Step.{Outcome, Next, Service as Calls, Wild, step}
use Rattle.core_tree.specs.declared.program.Core.{Core}
use Rattle.ideal430.specs.Agreement.{Agrees}
use Rattle.ideal430.specs.Ideal.{Meter, Ideal, stopped, moved, meter_after, doing, deed_here, ask_here, with_left, sensing, timing, asking, after as after_step, free, next_if, next, run}
use Rattle.ideal430.specs.Loaded.{loaded, start_of}
use Rattle.ideal430.specs.Service.{Block, Deed, Refuses, Does}
use Rattle.ideal430.specs.declared.service.Ask.{Ask}
use Rattle.ideal430.specs.declared.service.Ask.TheVariants.{Nothing, Sensor, Clock}
use Rattle.ideal430.specs.declared.state.IdealEnd.{IdealEnd}
use Rattle.ideal430.specs.declared.state.IdealEnd.TheVariants.{Running, Ended, NeedsReading}
use Rattle.matching.proofs.SameBytes.{match_along}
use Rattle.matching.specs.Laws.{metered, ComesTo, MarkIsMatched}
use Rattle.matching.specs.Simulates.{MachineMatches, IsWhere}

-- ---- what is counted

-- the same machine, but for what it counts
record Same (t u : Ideal) : Type 0 where
  meter : Meter
  is : u ≡ metered t meter

doing_same : (t : Ideal) (x : Meter) (d : Deed) → Same (doing t d) (doing (metered t x) d)
doing_same t x (Refuses kind) = record { meter = x; is = refl }
doing_same t x (Does e) = record { meter = meter_after (metered t x) e; is = refl }

sensing_same : (n : ℕ) (t : Ideal) (x : Meter) (channel : ℕ) (left : List Reading)
    → Same (sensing n t channel left) (sensing n (metered t x) channel left)
sensing_same n t x channel [] = record { meter = x; is = refl }
sensing_same n t x channel (reading.Sense c value ∷ rest) = from (nat_eq c channel)
  where
    from : (b : Bool) → Same (if b then doing (with_left t rest) (deed_here n value t) else stopped t NeedsReading)
        (if b then doing (with_left (metered t x) rest) (deed_here n value t) else stopped (metered t x) NeedsReading)
    from true = doing_same (with_left t rest) x (deed_here n value t)
    from false = record { meter = x; is = refl }
sensing_same n t x channel (reading.Clock ms ∷ rest) = record { meter = x; is = refl }

timing_same : (n : ℕ) (t : Ideal) (x : Meter) (left : List Reading) → Same (timing n t left) (timing n (metered t x) left)
timing_same n t x [] = record { meter = x; is = refl }
timing_same n t x (reading.Sense c value ∷ rest) = record { meter = x; is = refl }
timing_same n t x (reading.Clock ms ∷ rest) = doing_same (with_left t rest) x (deed_here n ms t)

asking_same : (n : ℕ) (t : Ideal) (x : Meter) (ask : Ask) → Same (asking n t ask) (asking n (metered t x) ask)
asking_same n t x Nothing = doing_same t x (deed_here n 0 t)
asking_same n t x (Sensor channel) = sensing_same n t x channel t.left
asking_same n t x Clock = timing_same n t x t.left

after_same : (t : Ideal) (x : Meter) (o : Outcome) → Same (after_step t o) (after_step (metered t x) o)
after_same t x (Next s) = record { meter = record x { ticks = x.ticks + 1 }; is = refl }
after_same t x (Calls n s) = asking_same n (moved t s) (record x { ticks = x.ticks + 1 }) (ask_here n (moved t s))
after_same t x (Wild a) = record { meter = x; is = refl }

next_same : (t : Ideal) (x : Meter) (e : IdealEnd) → Same (next_if e t) (next_if e (metered t x))
next_same t x Running = after_same t x (step free t.core)
next_same t x (Ended kind) = record { meter = x; is = refl }
next_same t x NeedsReading = record { meter = x; is = refl }

run_same : (n : ℕ) (t : Ideal) (x : Meter) → Same (run n t) (run n (metered t x))
run_same zero t x = record { meter = x; is = refl }
run_same (suc n) t x =
    let h = run_same n t x in
    let k = next_same (run n t) h.meter (run n t).status in
    record { meter = k.meter; is = ap next h.is ∙ k.is }

agrees_too : (t : Ideal) (x : Meter) (regs m : ℕ → ℕ) (segment : ℕ) (block : Block) (marks : ℕ)
    → Agrees (metered t x) regs m segment block marks → Agrees t regs m segment block marks
agrees_too t x regs m segment block marks h = record {
  regs_are = h.regs_are;
  memory = h.memory;
  segment_is = h.segment_is;
  block_is = h.block_is;
  marks_are = h.marks_are;
  fixed = h.fixed;
  within = h.within;
}

-- ---- just behind a mark

-- the machine has just made its s-th mark, and its words match the state
record Behind (core : Core) (s : ℕ) (c : Program) (start : Ideal) (n : ℕ) : Type 0 where
  marks : (run n start).marks ≡ s
  first : (k : ℕ) → k < n → (run k start).marks < s
  matches : MachineMatches core c (run n start)

behind : (core : Core) (readings : List Reading) (s : ℕ) (x : CState) (c : Program) (start : Ideal) (n : ℕ)
    → IsWhere core readings s x start n → ComesTo x s c → Behind core s c start n
behind core readings s (state.Live d) c start n h e = record {
  marks = h.marks;
  first = h.first;
  matches = subst (λ (x : Program). MachineMatches core x (run n start)) e h.matches;
}
behind core readings s (state.Ended kind d) c start n h e =
    let left = h.left e.0 in
    record {
      marks = h.marks ∙ e.1;
      first = λ k l. subst (λ (x : ℕ). (run k start).marks < x) e.1 (left.first k l);
      matches = subst (λ (x : Program). MachineMatches core x (run n start)) e.2 h.matches;
    }
behind core readings s state.NeedsReading c start n h e = absurd e
behind core readings s (state.Undefined rule node) c start n h e = absurd e

one_place : (start : Ideal) (s n k : ℕ) → (run n start).marks ≡ s → ((i : ℕ) → i < n → (run i start).marks < s)
    → (run k start).marks ≡ s → ((i : ℕ) → i < k → (run i start).marks < s) → n ≡ k
one_place start s n k a b c d = from (cases_lt n k) (cases_lt k n)
  where
    from : (n < k) ⊎ (k ≤ n) → (k < n) ⊎ (n ≤ k) → n ≡ k
    from (inl l) y = let m = d n l in absurd (omega arith)
    from (inr l) (inl m) = let w = b k m in absurd (omega arith)
    from (inr l) (inr m) = omega arith

-- what agrees with the machine on settled bytes just behind a mark matches the state of the C run
pub mark_matched : (core : Core) (code globals : List ℕ) (readings : List Reading) (x : Meter) (s : ℕ) (c : Program) (n : ℕ)
    → MarkIsMatched core code globals readings x s c n
mark_matched core code globals readings x s c n sim is comes just regs m segment block marks agrees =
    let start = start_of (loaded code globals) readings in
    let follows = sim readings is s in
    let k = follows.0 in
    let b = behind core readings s (after core readings s) c start k follows.1 comes in
    let here = run_same n start x in
    let made : (run n start).marks ≡ s = sym (ap (λ (t : Ideal). t.marks) here.is) ∙ just.marks in
    let before = λ (i : ℕ) (l : i < n). subst (λ (y : ℕ). y < s) (ap (λ (t : Ideal). t.marks) (run_same i start x).is)
    (just.first i l) in
    let same = one_place start s n k made before b.marks b.first in
    let matches : MachineMatches core c (run n start) = subst (λ (i : ℕ). MachineMatches core c (run i start)) (sym same)
    b.matches in
    match_along core c (run n start) regs m segment block marks
    (agrees_too (run n start) here.meter regs m segment block marks
    (subst (λ (t : Ideal). Agrees t regs m segment block marks) here.is agrees)) matches
