-- Stretches as runs, and marks along a run.
use Rattle.std.proofs.Common.{◌≡◌, ℕ, zero, suc, ◌+◌, ◌-◌, ◌<◌, ◌≤◌, refl, sym, ap, ◌∙◌, subst, arith, ◌⊎◌, inl, inr}
use Rattle.ideal430.specs.Ideal.{Ideal, next, run}
use Rattle.ideal430.specs.Uses.{IsClean}
use Rattle.ideal430.proofs.Runs.{next-counts}
use Rattle.cells430.specs.Stretch.{StepsTo, IdealRuns, IsProper}

-- ---- stretches

run_after : (n : ℕ) (t : Ideal) → run n (next t) ≡ next (run n t)
run_after zero t = refl
run_after (suc n) t = ap next (run_after n t)

-- a stretch leads where the run does
pub runs_are : (n : ℕ) (t u : Ideal) → IdealRuns n t u → run n t ≡ u
runs_are zero t u h = h
runs_are (suc n) t u h = sym (run_after n t) ∙ ap (run n) h.1.goes ∙ runs_are n h.0 u h.2

-- and each of its steps is as it has to be
pub runs_each : (n k : ℕ) (t u : Ideal) → IdealRuns n t u → k < n → StepsTo (run k t) (next (run k t))
runs_each zero k t u h l = absurd (omega arith)
runs_each (suc n) zero t u h l = subst (StepsTo t) (sym h.1.goes) h.1
runs_each (suc n) (suc k) t u h l =
    let e : run k h.0 ≡ run (suc k) t = ap (run k) (sym h.1.goes) ∙ run_after k t in
    subst (λ (v : Ideal). StepsTo v (next v)) e (runs_each n k h.0 u h.2 (omega arith))

pub runs_proper : (n : ℕ) (t u : Ideal) → IdealRuns n t u → (run n t ≡ u) × IsProper n t
runs_proper n t u h = (runs_are n t u h, λ k l. runs_each n k t u h l)

pub runs_clean : (n : ℕ) (t u : Ideal) → IdealRuns n t u → IsClean n t
runs_clean n t u h k l = (runs_each n k t u h l).uses

-- ---- marks

-- a step makes one mark at most
pub step_counts : (t : Ideal) → ((next t).marks ≡ t.marks) ⊎ ((next t).marks ≡ t.marks + 1)
step_counts t = next-counts t

never_less : (t : Ideal) → t.marks ≤ (next t).marks
never_less t = from (step_counts t)
  where
    from : ((next t).marks ≡ t.marks) ⊎ ((next t).marks ≡ t.marks + 1) → t.marks ≤ (next t).marks
    from (inl e) = omega arith
    from (inr e) = omega arith

marks_grow : (n j : ℕ) (t : Ideal) → (run n t).marks ≤ (run (j + n) t).marks
marks_grow n zero t = let e : n ≡ 0 + n = omega arith in subst (λ (k : ℕ). (run n t).marks ≤ (run k t).marks) e (omega arith)
marks_grow n (suc j) t =
    let e : suc (j + n) ≡ suc j + n = omega arith in
    let less = marks_grow n j t in
    let more = never_less (run (j + n) t) in
    subst (λ (k : ℕ). (run n t).marks ≤ (run k t).marks) e (omega arith)

-- marks never fall
pub marks_later : (n k : ℕ) (t : Ideal) → n ≤ k → (run n t).marks ≤ (run k t).marks
marks_later n k t l = let e : k - n + n ≡ k = omega arith in
    subst (λ (i : ℕ). (run n t).marks ≤ (run i t).marks) e (marks_grow n (k - n) t)
