-- Spans.
use Rattle.std.proofs.Common.{◌≡◌, ℕ, zero, suc, ◌+◌, ◌<◌, ◌≤◌, Bool, true, false, ◌&&◌, List, [], ◌∷◌, length, take, drop, get_or, refl, ap, ◌∙◌, arith}
use Rattle.std.specs.List.{list_all}
use Rattle.std.proofs.Math.Seq.{drop-cons}
use Rattle.std.proofs.lemmas.List.{drop_all}
use Rattle.c_lex.specs.Measures.{span}

span-cons_true : {A : Type 0} (p : A → Bool) (x : A) (xs : List A) → p x ≡ true → span p (x ∷ xs) ≡ suc (span p xs)
unfolding span
span-cons_true p x xs h = rw h refl

span-cons_false : {A : Type 0} (p : A → Bool) (x : A) (xs : List A) → p x ≡ false → span p (x ∷ xs) ≡ 0
unfolding span
span-cons_false p x xs h = rw h refl

span_nil : {A : Type 0} (p : A → Bool) → span p [] ≡ 0
unfolding span
span_nil p = refl

-- the steps of a loop that counts
pub span_more : {A : Type 0} (p : A → Bool) (xs : List A) (i : ℕ) (d : A) → i < length xs → p (get_or xs i d) ≡ true
    → span p (drop i xs) ≡ span p (drop (i + 1) xs) + 1
span_more p xs i d h t = ap (span p) (drop-cons xs i d h)
    ∙ (span-cons_true p (get_or xs i d) (drop (suc i) xs) t ∙ (let e : suc i ≡ i + 1 = omega arith in rw e (omega arith)))

pub span_stops : {A : Type 0} (p : A → Bool) (xs : List A) (i : ℕ) (d : A) → i < length xs → p (get_or xs i d) ≡ false
    → span p (drop i xs) ≡ 0
span_stops p xs i d h t = ap (span p) (drop-cons xs i d h) ∙ span-cons_false p (get_or xs i d) (drop (suc i) xs) t

pub span_ends : {A : Type 0} (p : A → Bool) (xs : List A) (i : ℕ) → length xs ≤ i → span p (drop i xs) ≡ 0
span_ends p xs i h = rw (drop_all i xs h) (span_nil p)

-- ---- what passes as a whole
passes_at : {A : Type 0} (p : A → Bool) (x : A) (xs : List A) (b : Bool) → p x ≡ b → list_all p (take (span p xs) xs) ≡ true
    → list_all p (take (span p (x ∷ xs)) (x ∷ xs)) ≡ true
passes_at p x xs true e h = rw (span-cons_true p x xs e, e) h
passes_at p x xs false e h = rw (span-cons_false p x xs e) refl

pub span_passes : {A : Type 0} (p : A → Bool) (xs : List A) → list_all p (take (span p xs) xs) ≡ true
span_passes p [] = rw (span_nil p) refl
span_passes p (x ∷ xs) = passes_at p x xs (p x) refl (span_passes p xs)

within_at : {A : Type 0} (p : A → Bool) (x : A) (xs : List A) (b : Bool) → p x ≡ b → span p xs ≤ length xs
    → span p (x ∷ xs) ≤ suc (length xs)
within_at p x xs true e h = rw (span-cons_true p x xs e) (omega arith)
within_at p x xs false e h = rw (span-cons_false p x xs e) (omega arith)

pub span_within : {A : Type 0} (p : A → Bool) (xs : List A) → span p xs ≤ length xs
span_within p [] = rw (span_nil p) (omega arith)
span_within p (x ∷ xs) = within_at p x xs (p x) refl (span_within p xs)

-- no longer front passes
longest_at : {A : Type 0} (p : A → Bool) (x : A) (xs : List A) (k : ℕ) (b : Bool) → p x ≡ b
    → (span p xs < k → k ≤ length xs → list_all p (take k xs) ≡ false)
    → span p (x ∷ xs) < suc k → suc k ≤ suc (length xs) → p x && list_all p (take k xs) ≡ false
longest_at p x xs k true e next h w = let g = span-cons_true p x xs e in rw e (next (omega (arith, g)) (omega arith))
longest_at p x xs k false e next h w = rw e refl

pub span_longest : {A : Type 0} (p : A → Bool) (xs : List A) (k : ℕ) → span p xs < k → k ≤ length xs
    → list_all p (take k xs) ≡ false
span_longest p [] k h w = absurd (omega arith)
span_longest p (x ∷ xs) zero h w = absurd (omega arith)
span_longest p (x ∷ xs) (suc k) h w = longest_at p x xs k (p x) refl (λ h w. span_longest p xs k h w) h w
