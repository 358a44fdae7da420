-- Runs one after another, runs of the relation and of the function, and what a run leaves as it was.
use Rattle.std.proofs.Common.{◌≡◌, ℕ, zero, suc, ◌+◌, ◌-◌, ◌<◌, ◌≤◌, refl, sym, ap, ◌∙◌, subst, arith, Bool, true, false}
use Rattle.core430.specs.Bytes.{byte_at}
use Rattle.core430.specs.Step.{State, Outcome, Next, Service, Wild, step}
use Rattle.core430.specs.Uses.{step_changes, joined, SameOn, EndAlike, AreWords, IsLeft, LeavesWords}
use Rattle.core430.proofs.Truths.{or-left}
use Rattle.core430.proofs.SameBytes.{same-fewer}
use Rattle.core430.proofs.Depends.{step_depends}
use Rattle.core430.proofs.Frame.{step_left}
use Rattle.core430.proofs.WordSizes.{step_words}
use Rattle.run430.specs.Run.{then_run, run, Touches, StepTo, Runs, SteadyRuns, AnyByte, Named}
use Rattle.run430.specs.Routine.{Goes}

pub Runs-append : (denied : ℕ → Bool) (R W : ℕ → Type 0) (n k : ℕ) (s t u : State) → Runs denied R W n s t → Runs denied R W k t u → Runs denied R W (n + k) s u
Runs-append denied R W zero k s t u a b = subst (λ (x : State). Runs denied R W (zero + k) x u) (sym a) (let e : k ≡ zero + k = omega arith in subst (λ (x : ℕ). Runs denied R W x t u) e b)
Runs-append denied R W (suc n) k s t u a b =
    let e : suc (n + k) ≡ suc n + k = omega arith in
    subst (λ (x : ℕ). Runs denied R W x s u) e (a.0, a.1, Runs-append denied R W n k a.0 t u a.2 b)

-- the same of the function
pub run-append : (denied : ℕ → Bool) (n k : ℕ) (s : State) → run denied (n + k) s ≡ then_run (run denied n s) (run denied k)
run-append denied zero k s = let e : 0 + k ≡ k = omega arith in ap (λ (x : ℕ). run denied x s) e
run-append denied (suc n) k s = let e : suc n + k ≡ suc (n + k) = omega arith in ap (λ (x : ℕ). run denied x s) e ∙ after denied n k (step denied s) (run-append denied n k)
  where
    after : (denied : ℕ → Bool) (n k : ℕ) (o : Outcome) → ((t : State) → run denied (n + k) t ≡ then_run (run denied n t) (run denied k)) → then_run o (run denied (n + k)) ≡ then_run (then_run o (run denied n)) (run denied k)
    after denied n k (Next t) f = f t
    after denied n k (Service a t) f = refl
    after denied n k (Wild a) f = refl

-- one step more, with so many left
pub run-goes : (denied : ℕ → Bool) (n left : ℕ) (s t u : State) → left ≤ n → 0 < left → run denied (n - left) s ≡ Next t → step denied t ≡ Next u → run denied (n - (left - 1)) s ≡ Next u
run-goes denied n left s t u l h e k =
    let one : n - (left - 1) ≡ (n - left) + 1 = omega arith in
    rw one (run-append denied (n - left) 1 s ∙ ap (λ (o : Outcome). then_run o (run denied 1)) e ∙ ap (λ (o : Outcome). then_run o (run denied 0)) k)

-- what ends a run
abbrev pub Ends : Outcome → Type 0
Ends (Next s) = ⊥
Ends (Service n s) = Unit {0}
Ends (Wild a) = Unit {0}

pub run-ends : (denied : ℕ → Bool) (n left : ℕ) (s t : State) (o : Outcome) → left ≤ n → 0 < left → run denied (n - left) s ≡ Next t → step denied t ≡ o → Ends o → run denied n s ≡ o
run-ends denied n left s t o l h e k w =
    let all : n ≡ (n - left) + suc (left - 1) = omega arith in
    rw all (run-append denied (n - left) (suc (left - 1)) s ∙ ap (λ (x : Outcome). then_run x (run denied (suc (left - 1)))) e ∙ ap (λ (x : Outcome). then_run x (run denied (left - 1))) k ∙ stays o (run denied (left - 1)) w)
  where
    stays : (o : Outcome) (f : State → Outcome) → Ends o → then_run o f ≡ o
    stays (Next s) f w = absurd w
    stays (Service n s) f w = refl
    stays (Wild a) f w = refl

-- a run of the relation is a run of the function
pub Runs-run : (denied : ℕ → Bool) (R W : ℕ → Type 0) (n : ℕ) (s t : State) → Runs denied R W n s t → run denied n s ≡ Next t
Runs-run denied R W zero s t h = ap Next h
Runs-run denied R W (suc n) s t h = ap (λ (o : Outcome). then_run o (run denied n)) h.1.goes ∙ Runs-run denied R W n h.0 t h.2

-- a run of the function is one of the relation, if any byte may be used and changed
pub run-Runs : (denied : ℕ → Bool) (n : ℕ) (s t : State) → run denied n s ≡ Next t → Runs denied AnyByte AnyByte n s t
run-Runs denied zero s t h = same h
  where
    same : Next s ≡ Next t → s ≡ t
    same e = cc
run-Runs denied (suc n) s t h = from denied n s t (step denied s) refl h (λ u k. run-Runs denied n u t k)
  where
    no_service : (a : ℕ) (u t : State) → Service a u ≡ Next t → ⊥
    no_service a u t k = cc

    no_wild : (a : ℕ) (t : State) → Wild a ≡ Next t → ⊥
    no_wild a t k = cc

    from : (denied : ℕ → Bool) (n : ℕ) (s t : State) (o : Outcome) → step denied s ≡ o → then_run o (run denied n) ≡ Next t → ((u : State) → run denied n u ≡ Next t → Runs denied AnyByte AnyByte n u t) → (u : State) × StepTo denied AnyByte AnyByte s u × Runs denied AnyByte AnyByte n u t
    from denied n s t (Next u) e k f = (u, record { goes = e; touches = (λ b h. tt, λ b h. tt) }, f u k)
    from denied n s t (Service a u) e k f = absurd (no_service a u t k)
    from denied n s t (Wild a) e k f = absurd (no_wild a t k)

-- ---- wider footprints

pub Touches-wider : (R R2 W W2 : ℕ → Type 0) → ((a : ℕ) → R a → R2 a) → ((a : ℕ) → W a → W2 a) → (s : State) → Touches R W s → Touches R2 W2 s
Touches-wider R R2 W W2 f g s h = (λ b e. f b (h.0 b e), λ b e. g b (h.1 b e))

pub Runs-wider : (denied : ℕ → Bool) (R R2 W W2 : ℕ → Type 0) → ((a : ℕ) → R a → R2 a) → ((a : ℕ) → W a → W2 a) → (n : ℕ) (s t : State) → Runs denied R W n s t → Runs denied R2 W2 n s t
Runs-wider denied R R2 W W2 f g zero s t h = h
Runs-wider denied R R2 W W2 f g (suc n) s t h =
    (h.0, record { goes = h.1.goes; touches = Touches-wider R R2 W W2 f g s h.1.touches }, Runs-wider denied R R2 W W2 f g n h.0 t h.2)

-- ---- a byte that is not changed stays

-- after one step, which leaves words where it found words
pub step-kept : (denied : ℕ → Bool) (R W : ℕ → Type 0) (s t : State) (b : ℕ) → AreWords s.memory → StepTo denied R W s t → (W b → ⊥) → byte_at t.memory b ≡ byte_at s.memory b
step-kept denied R W s t b words h none =
    subst (IsLeft s.memory b) h.goes (step_left denied s words b (at (step_changes s b) refl))
  where
    at : (x : Bool) → step_changes s b ≡ x → step_changes s b ≡ false
    at true e = absurd (none (h.touches.1 b e))
    at false e = e

pub step-words : (denied : ℕ → Bool) (R W : ℕ → Type 0) (s t : State) → AreWords s.regs → AreWords s.memory → StepTo denied R W s t → AreWords t.regs × AreWords t.memory
step-words denied R W s t hr hm h = subst LeavesWords h.goes (step_words denied s hr hm)

pub Runs-words : (denied : ℕ → Bool) (R W : ℕ → Type 0) (n : ℕ) (s t : State) → AreWords s.regs → AreWords s.memory → Runs denied R W n s t → AreWords t.regs × AreWords t.memory
Runs-words denied R W zero s t hr hm h = (subst (λ (x : State). AreWords x.regs) h hr, subst (λ (x : State). AreWords x.memory) h hm)
Runs-words denied R W (suc n) s t hr hm h = let w = step-words denied R W s h.0 hr hm h.1 in Runs-words denied R W n h.0 t w.0 w.1 h.2

pub Runs-kept : (denied : ℕ → Bool) (R W : ℕ → Type 0) (n : ℕ) (s t : State) (b : ℕ) → AreWords s.regs → AreWords s.memory → Runs denied R W n s t → (W b → ⊥) → byte_at t.memory b ≡ byte_at s.memory b
Runs-kept denied R W zero s t b hr hm h k = ap (λ (x : State). byte_at x.memory b) (sym h)
Runs-kept denied R W (suc n) s t b hr hm h k =
    let w = step-words denied R W s h.0 hr hm h.1 in
    Runs-kept denied R W n h.0 t b w.0 w.1 h.2 k ∙ step-kept denied R W s h.0 b hm h.1 k

-- ---- a run depends on no byte but those that it uses

pub Runs-depends : (denied p : ℕ → Bool) (W : ℕ → Type 0) (n : ℕ) (s t : State) (k : ℕ → ℕ) → Runs denied (Named p) W n s t → SameOn p s.memory k → (m : ℕ → ℕ) × (run denied n (record { regs = s.regs; memory = k }) ≡ Next (record { regs = t.regs; memory = m })) × SameOn p t.memory m
Runs-depends denied p W zero s t k h same =
    (k, ap (λ (x : State). Next (record { regs = x.regs; memory = k })) h, subst (λ (x : State). SameOn p x.memory k) h same)
Runs-depends denied p W (suc n) s t k h same =
    let a = subst (λ (o : Outcome). EndAlike (joined p (step_changes s)) o (step denied (record { regs = s.regs; memory = k }))) h.1.goes (step_depends denied s p k same h.1.touches.0) in
    let more = Runs-depends denied p W n h.0 t a.0.memory h.2 (same-fewer _ p _ _ a.3 (λ b e. or-left (p b) _ e)) in (
      more.0,
      ap (λ (o : Outcome). then_run o (run denied n)) a.1 ∙ ap (λ (r : ℕ → ℕ). run denied n (record { regs = r; memory = a.0.memory })) (sym a.2) ∙ more.1,
      more.2,
    )

-- ---- runs that keep SP from rising

pub SteadyRuns-Runs : (denied : ℕ → Bool) (R W : ℕ → Type 0) (top n : ℕ) (s t : State) → SteadyRuns denied R W top n s t → Runs denied R W n s t
SteadyRuns-Runs denied R W top zero s t h = h
SteadyRuns-Runs denied R W top (suc n) s t h = (h.0, h.1, SteadyRuns-Runs denied R W top n h.0 t h.3)

pub SteadyRuns-append : (denied : ℕ → Bool) (R W : ℕ → Type 0) (top n k : ℕ) (s t u : State) → SteadyRuns denied R W top n s t → SteadyRuns denied R W top k t u → SteadyRuns denied R W top (n + k) s u
SteadyRuns-append denied R W top zero k s t u a b = subst (λ (x : State). SteadyRuns denied R W top (zero + k) x u) (sym a) (let e : k ≡ zero + k = omega arith in subst (λ (x : ℕ). SteadyRuns denied R W top x t u) e b)
SteadyRuns-append denied R W top (suc n) k s t u a b =
    let e : suc (n + k) ≡ suc n + k = omega arith in
    subst (λ (x : ℕ). SteadyRuns denied R W top x s u) e (a.0, a.1, a.2, SteadyRuns-append denied R W top n k a.0 t u a.3 b)

pub SteadyRuns-wider : (denied : ℕ → Bool) (R R2 W W2 : ℕ → Type 0) (top top2 : ℕ) → ((a : ℕ) → R a → R2 a) → ((a : ℕ) → W a → W2 a) → top ≤ top2 → (n : ℕ) (s t : State) → SteadyRuns denied R W top n s t → SteadyRuns denied R2 W2 top2 n s t
SteadyRuns-wider denied R R2 W W2 top top2 f g l zero s t h = h
SteadyRuns-wider denied R R2 W W2 top top2 f g l (suc n) s t h =
    (h.0, record { goes = h.1.goes; touches = Touches-wider R R2 W W2 f g s h.1.touches }, omega (arith, h.2, l), SteadyRuns-wider denied R R2 W W2 top top2 f g l n h.0 t h.3)

-- one more step
pub steadily : (denied : ℕ → Bool) (R W : ℕ → Type 0) (top n : ℕ) (s u t : State) → Runs denied R W 1 s u → u.regs 1 ≤ top → SteadyRuns denied R W top n u t → SteadyRuns denied R W top (suc n) s t
steadily denied R W top n s u t h l rest = (u, subst (λ (x : State). StepTo denied R W s x) h.2 h.1, l, rest)

-- ---- stretches

-- one stretch after another: the limits add up
pub then_goes : (denied : ℕ → Bool) (R W : ℕ → Type 0) (j k : ℕ) (s : State) (P Q : State → Type 0) → Goes denied R W j s P → ((t : State) → P t → Goes denied R W k t Q) → Goes denied R W (j + k) s Q
then_goes denied R W j k s P Q a more =
    let b = more a.end a.so in
    record { steps = a.steps + b.steps; within = omega (arith, a.within, b.within); end = b.end; runs = Runs-append denied R W a.steps b.steps _ _ _ a.runs b.runs; so = b.so }

-- a larger limit, and less that is so
pub goes_weaker : (denied : ℕ → Bool) (R W : ℕ → Type 0) (j k : ℕ) (s : State) (P Q : State → Type 0) → j ≤ k → ((t : State) → P t → Q t) → Goes denied R W j s P → Goes denied R W k s Q
goes_weaker denied R W j k s P Q l f a =
    record { steps = a.steps; within = omega (arith, a.within); end = a.end; runs = a.runs; so = f a.end a.so }

-- no step at all
pub goes_at_once : (denied : ℕ → Bool) (R W : ℕ → Type 0) (s : State) (Q : State → Type 0) → Q s → Goes denied R W 0 s Q
goes_at_once denied R W s Q q = record { steps = 0; within = omega arith; end = s; runs = refl; so = q }
