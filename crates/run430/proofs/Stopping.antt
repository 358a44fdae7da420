-- How a run of the code ends.
use Rattle.std.proofs.Common.{◌≡◌, ℕ, ◌-◌, ◌<◌, ◌≤◌, refl, sym, ap, ◌∙◌, arith, Bool}
use Rattle.core430.specs.declared.machine.Stepped.{Stepped}
use Rattle.core430.specs.declared.machine.Stepped.TheVariants.{Next as WentOn, Service as Called, Wild as WentWild}
use Rattle.core430.specs.Shown.{OnWild, outcome_shown}
use Rattle.core430.specs.Step.{State, Next, step}
use Rattle.run430.specs.Run.{run, OnRefusal}
use Rattle.run430.proofs.Compose.{run-goes, run-ends}

pub went_on : (denied D : ℕ → Bool) (n left : ℕ) (s t u : State) → left ≤ n → 0 < left → run denied (n - left) s ≡ Next t → D ≡ denied → Next u ≡ step D t → run denied (n - (left - 1)) s ≡ Next u
went_on denied D n left s t u l h e d k = run-goes denied n left s t u l h e (ap (λ x. step x t) (sym d) ∙ sym k)

pub stopped : (denied D : ℕ → Bool) (n left : ℕ) (s t : State) (r m : ℕ → ℕ) (o : Stepped) → (o ≡ WentOn → ⊥) → left ≤ n → 0 < left → run denied (n - left) s ≡ Next t → D ≡ denied → outcome_shown o r m ≡ step D t → outcome_shown o r m ≡ run denied n s
stopped denied D n left s t r m WentOn x l h e d k = absurd (x refl)
stopped denied D n left s t r m (Called a) x l h e d k = sym (run-ends denied n left s t _ l h e (ap (λ y. step y t) (sym d) ∙ sym k) tt)
stopped denied D n left s t r m (WentWild a) x l h e d k = sym (run-ends denied n left s t _ l h e (ap (λ y. step y t) (sym d) ∙ sym k) tt)

pub refused_at : (A : Type 0) (f : A → (ℕ → ℕ)) (denied D : ℕ → Bool) (n left : ℕ) (s : State) (x y : A) (m k : ℕ → ℕ) (o : Stepped) → left ≤ n → 0 < left → run denied (n - left) s ≡ Next (record { regs = f y; memory = k }) → D ≡ denied → outcome_shown o (f x) m ≡ step D (record { regs = f y; memory = k }) → OnWild o (x ≡ y) → OnWild o (m ≡ k) → OnRefusal o denied n s (record { regs = f x; memory = m })
refused_at A f denied D n left s x y m k WentOn l h e d w p q = tt
refused_at A f denied D n left s x y m k (Called a) l h e d w p q = tt
refused_at A f denied D n left s x y m k (WentWild a) l h e d w p q =
    let regs : f y ≡ f x = ap f (sym p) in (
      n - left,
      omega arith,
      e ∙ ap (λ (z : ℕ → ℕ). Next (record { regs = z; memory = k })) regs ∙ ap (λ (z : ℕ → ℕ). Next (record { regs = f x; memory = z })) (sym q),
      sym (w ∙ ap (λ (z : ℕ → Bool). step z (record { regs = f y; memory = k })) d ∙ ap (λ (z : ℕ → ℕ). step denied (record { regs = z; memory = k })) regs ∙ ap (λ (z : ℕ → ℕ). step denied (record { regs = f x; memory = z })) (sym q)),
    )
