-- What a list of changes does to a display, one part of the display at a time.
use Rattle.std.specs.Prelude.{◌≡◌, ℕ, ◌<◌, ◌==◌, ◌⊎◌, if◌then◌else◌, List, [], ◌∷◌, Option, fold, zero, suc, refl}
use Rattle.std.proofs.Common.{◌∙◌, ap, subst, inl, inr, arith}
use Rattle.std.proofs.lemmas.Bool.Decides.{nat_tests}
use Rattle.std.proofs.lemmas.List.Sums.{fold-append}
use Rattle.world.specs.History.{Display, changed}
use Rattle.world.specs.declared.history.Shown.{Shown}
use Rattle.world.specs.declared.history.Shown.TheVariants.{Value, Stamp, Outs, Out}
use Rattle.display.specs.Sets.{all_below}

-- what one change makes of the value of scalar s, of its stamp, of the number of outputs, of output i
abbrev pub valued : ℕ → ℕ → Shown → ℕ
valued s v (Value t w) = if s == t then w else v
valued s v (Stamp t ms) = v
valued s v (Outs n) = v
valued s v (Out i w) = v

abbrev pub stamped : ℕ → Option ℕ → Shown → Option ℕ
stamped s v (Value t w) = v
stamped s v (Stamp t ms) = if s == t then ms else v
stamped s v (Outs n) = v
stamped s v (Out i w) = v

abbrev pub counted : ℕ → Shown → ℕ
counted v (Value t w) = v
counted v (Stamp t ms) = v
counted v (Outs n) = n
counted v (Out i w) = v

abbrev pub put_out : ℕ → ℕ → Shown → ℕ
put_out i v (Value t w) = v
put_out i v (Stamp t ms) = v
put_out i v (Outs n) = v
put_out i v (Out j w) = if i == j then w else v

pub values-fold : (s : ℕ) (d : Display) (sets : List Shown) → (fold changed d sets).values s ≡ fold (valued s) (d.values s) sets
values-fold s d [] = refl
values-fold s d (Value t w ∷ rest) = values-fold s (changed d (Value t w)) rest
values-fold s d (Stamp t ms ∷ rest) = values-fold s (changed d (Stamp t ms)) rest
values-fold s d (Outs n ∷ rest) = values-fold s (changed d (Outs n)) rest
values-fold s d (Out i w ∷ rest) = values-fold s (changed d (Out i w)) rest

pub stamps-fold : (s : ℕ) (d : Display) (sets : List Shown) → (fold changed d sets).stamps s ≡ fold (stamped s) (d.stamps s) sets
stamps-fold s d [] = refl
stamps-fold s d (Value t w ∷ rest) = stamps-fold s (changed d (Value t w)) rest
stamps-fold s d (Stamp t ms ∷ rest) = stamps-fold s (changed d (Stamp t ms)) rest
stamps-fold s d (Outs n ∷ rest) = stamps-fold s (changed d (Outs n)) rest
stamps-fold s d (Out i w ∷ rest) = stamps-fold s (changed d (Out i w)) rest

pub outputs-fold : (d : Display) (sets : List Shown) → (fold changed d sets).outputs ≡ fold counted d.outputs sets
outputs-fold d [] = refl
outputs-fold d (Value t w ∷ rest) = outputs-fold (changed d (Value t w)) rest
outputs-fold d (Stamp t ms ∷ rest) = outputs-fold (changed d (Stamp t ms)) rest
outputs-fold d (Outs n ∷ rest) = outputs-fold (changed d (Outs n)) rest
outputs-fold d (Out i w ∷ rest) = outputs-fold (changed d (Out i w)) rest

pub outs-fold : (i : ℕ) (d : Display) (sets : List Shown) → (fold changed d sets).outs i ≡ fold (put_out i) (d.outs i) sets
outs-fold i d [] = refl
outs-fold i d (Value t w ∷ rest) = outs-fold i (changed d (Value t w)) rest
outs-fold i d (Stamp t ms ∷ rest) = outs-fold i (changed d (Stamp t ms)) rest
outs-fold i d (Outs n ∷ rest) = outs-fold i (changed d (Outs n)) rest
outs-fold i d (Out j w ∷ rest) = outs-fold i (changed d (Out j w)) rest

-- ---- lists one behind another

-- What changes nothing at each number changes nothing.
pub fold-still : {A : Type 0} (step : A → Shown → A) (f : ℕ → List Shown) (v : A) (n : ℕ)
    → ((a : ℕ) → fold step v (f a) ≡ v) → fold step v (all_below f n) ≡ v
unfolding all_below
fold-still step f v zero still = refl
fold-still step f v (suc n) still = fold-append step v (all_below f n) (f n)
    ∙ ap (λ x. fold step x (f n)) (fold-still step f v n still) ∙ still n

-- What may lead to a value, and from it nowhere else, leads there or nowhere.
pub fold-either : {A : Type 0} (step : A → Shown → A) (f : ℕ → List Shown) (v goal : A) (n : ℕ)
    → ((a : ℕ) → (fold step v (f a) ≡ v) ⊎ (fold step v (f a) ≡ goal)) → ((a : ℕ) → fold step goal (f a) ≡ goal)
    → (fold step v (all_below f n) ≡ v) ⊎ (fold step v (all_below f n) ≡ goal)
unfolding all_below
fold-either step f v goal zero moves stays = inl refl
fold-either step f v goal (suc n) moves stays = elim (fold-either step f v goal n moves stays) [
  | inl e ↦
      let here = fold-append step v (all_below f n) (f n) ∙ ap (λ x. fold step x (f n)) e in
      elim (moves n) [ inl q ↦ inl (here ∙ q) | inr q ↦ inr (here ∙ q) ]
  | inr e ↦ inr (fold-append step v (all_below f n) (f n) ∙ ap (λ x. fold step x (f n)) e ∙ stays n)
]

-- It leads there where it does so at one number.
pub fold-settles : {A : Type 0} (step : A → Shown → A) (f : ℕ → List Shown) (v goal : A) (n k : ℕ) → k < n
    → ((a : ℕ) → (fold step v (f a) ≡ v) ⊎ (fold step v (f a) ≡ goal)) → ((a : ℕ) → fold step goal (f a) ≡ goal)
    → fold step v (f k) ≡ goal → fold step v (all_below f n) ≡ goal
unfolding all_below
fold-settles step f v goal zero k l moves stays there = absurd (omega arith)
fold-settles step f v goal (suc n) k l moves stays there =
    let cut = fold-append step v (all_below f n) (f n) in
    elim (same k n) [
      | inl e ↦ elim (fold-either step f v goal n moves stays) [
        | inl q ↦ cut ∙ ap (λ x. fold step x (f n)) q ∙ subst (λ j. fold step v (f j) ≡ goal) e there
        | inr q ↦ cut ∙ ap (λ x. fold step x (f n)) q ∙ stays n
      ]
      | inr ne ↦ cut ∙ ap (λ x. fold step x (f n)) (fold-settles step f v goal n k (omega arith) moves stays there) ∙ stays n
    ]
  where
    same : (a b : ℕ) → (a ≡ b) ⊎ (a ≡ b → ⊥)
    same a b = grind (arith, nat_tests)
