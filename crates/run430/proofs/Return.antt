-- A call of a routine as one run, its return included, and what it leaves.
use Rattle.std.proofs.Common.{◌≡◌, ℕ, suc, ◌+◌, ◌*◌, ◌/◌, ◌%◌, ◌<◌, ◌≤◌, refl, sym, ap, ◌∙◌, subst, arith, Bool, ◌||◌, List, [], ◌∷◌, ◌⊎◌, inl, inr}
use Rattle.std.specs.Prelude.{nat_eq, IsTrue}
use Rattle.std.specs.List.{list_any}
use Rattle.std.proofs.lemmas.Bool.{cases_eq, ne_eqb}
use Rattle.core430.specs.Status.{bit, with_flags}
use Rattle.core430.proofs.Flags.{bit_below}
use Rattle.core430.specs.Step.{State}
use Rattle.run430.specs.Run.{Runs}
use Rattle.run430.specs.Routine.{without_flags, Keeps, IsKept, ComesBack}
use Rattle.run430.proofs.Compose.{Runs-append, SteadyRuns-Runs}
use Rattle.run430.proofs.Rules.{arrive_next}

-- a return word below the entries of the services calls none of them
pub returned : (denied : ℕ → Bool) (R W : ℕ → Type 0) (limit answer : ℕ) (same : List ℕ) (s : State) (h : ComesBack denied R W limit answer same s) → s.memory (s.regs 1) < 65280 → Runs denied R W (suc h.steps) s h.end
returned denied R W limit answer same s h low =
    let below : h.end.regs 0 < 65280 = omega (arith, h.back, low) in
    let one : h.steps + 1 ≡ suc h.steps = omega arith in
    let runs = SteadyRuns-Runs denied R W (s.regs 1) h.steps s h.last h.runs in
    subst (λ (k : ℕ). Runs denied R W k s h.end) one (Runs-append denied R W h.steps 1 s h.last h.end runs (h.end, record { goes = h.returns ∙ arrive_next h.end.regs h.end.memory below; touches = h.touches }, refl))

-- ---- what is left

-- new flags leave the other bits
other_bits : (h l v n z c : ℕ) → v ≤ 1 → n ≤ 1 → z ≤ 1 → c ≤ 1 → l < 32 →
    let w = h * 512 + v * 256 + l * 8 + n * 4 + z * 2 + c in (w / 512 ≡ h) × (w / 8 % 32 ≡ l)
other_bits h l v n z c lv ln lz lc ll = (omega arith, omega arith)

pub without_flags-with_flags : (status : ℕ) (c z n v : Bool) → without_flags (with_flags status c z n v) ≡ without_flags status
unfolding without_flags with_flags
without_flags-with_flags status c z n v =
    let b = other_bits (status / 512) (status / 8 % 32) (bit v) (bit n) (bit z) (bit c) (bit_below v) (bit_below n) (bit_below z) (bit_below c) (omega arith) in
    ap (λ (k : ℕ). k * 512 + (status / 512 * 512 + bit v * 256 + status / 8 % 32 * 8 + bit n * 4 + bit z * 2 + bit c) / 8 % 32 * 8) b.0 ∙ ap (λ (k : ℕ). status / 512 * 512 + k * 8) b.1

pub kept_self : (ns : List ℕ) (r : ℕ → ℕ) → IsKept ns r r
kept_self ns r = (refl, all ns)
  where
    all : (ns : List ℕ) → Keeps ns r r
    all [] = tt
    all (n ∷ ns) = (refl, all ns)

-- a register of the list is as it was
pub keeps : (ns : List ℕ) (n : ℕ) (before r : ℕ → ℕ) → IsTrue (list_any (nat_eq n) ns) → Keeps ns before r → r n ≡ before n
keeps [] n before r h k = cc
keeps (m ∷ ns) n before r h k = from (λ j. keeps ns n before r j k.1) (cases_eq n m)
  where
    from : (IsTrue (list_any (nat_eq n) ns) → r n ≡ before n) → ((n ≡ m) ⊎ (n ≡ m → ⊥)) → r n ≡ before n
    from more (inl e) = subst (λ (x : ℕ). r x ≡ before x) (sym e) k.0
    from more (inr d) = more (ap (λ (b : Bool). b || list_any (nat_eq n) ns) (sym (ne_eqb n m d)) ∙ h)
