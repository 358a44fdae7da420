-- Lists of which one element is changed, or the last is taken away.
use Rattle.std.proofs.Common.{◌≡◌, ℕ, zero, suc, ◌+◌, ◌<◌, List, [], ◌∷◌, ◌++◌, length, get_or, set, take, drop, map, Some, refl, arith, ap, sym, ◌∙◌, add-one}
use Rattle.std.specs.Prelude.{slice_get}
use Rattle.c_run.specs.Lists.{changed_at, without_last}

changed_more : {X : Type 0} (f : X → X) (xs : List X) (i : ℕ) → i < length xs
    → changed_at f i (map f (take i xs) ++ drop i xs) ≡ map f (take (suc i) xs) ++ drop (suc i) xs
changed_more f [] i h = absurd (omega arith)
changed_more f (x ∷ xs) zero h = refl
changed_more f (x ∷ xs) (suc i) h = ap (λ t. f x ∷ t) (changed_more f xs i (omega arith))

-- one turn of a loop that changes each element
pub changed_turn : {X : Type 0} (f : X → X) (xs ys ws : List X) (i : ℕ) → i < length xs
    → ys ≡ map f (take i xs) ++ drop i xs → ws ≡ changed_at f i ys → ws ≡ map f (take (i + 1) xs) ++ drop (i + 1) xs
changed_turn f xs ys ws i h e is = rw add-one (is ∙ (ap (λ l. changed_at f i l) e ∙ changed_more f xs i h))

-- what stands at a place is taken out, with something else in its place, and changed put back
pub replaced_at : {X : Type 0} (f : X → X) (xs : List X) (i : ℕ) (x other : X) → slice_get xs i ≡ Some x
    → set (set xs i other) i (f x) ≡ changed_at f i xs
replaced_at f [] i x other e = refl
replaced_at f (y ∷ xs) zero x other e = ap (λ t. f t ∷ xs) cc
replaced_at f (y ∷ xs) (suc i) x other e = ap (λ t. y ∷ t) (replaced_at f xs i x other e)

-- what stands at a place is kept
pub kept_at : {X : Type 0} (f : X → X) (xs : List X) (i : ℕ) (d : X) → i < length xs → f (get_or xs i d) ≡ get_or xs i d
    → xs ≡ changed_at f i xs
kept_at f [] i d h e = refl
kept_at f (x ∷ xs) zero d h e = ap (λ t. t ∷ xs) (sym e)
kept_at f (x ∷ xs) (suc i) d h e = ap (λ t. x ∷ t) (kept_at f xs i d (omega arith) e)

pub last_gone : {X : Type 0} (xs : List X) (x : X) → without_last (xs ++ x ∷ []) ≡ xs
last_gone [] x = refl
last_gone (y ∷ []) x = refl
last_gone (y ∷ (z ∷ xs)) x = ap (λ t. y ∷ t) (last_gone (z ∷ xs) x)

pub replaced : {X : Type 0} (f : X → X) (xs zs ws : List X) (i : ℕ) (x y other : X) → slice_get xs i ≡ Some x → zs ≡ set xs i other
    → y ≡ f x → ws ≡ set zs i y → ws ≡ changed_at f i xs
replaced f xs zs ws i x y other found rest made written =
    written ∙ (ap (λ l. set l i y) rest ∙ (ap (λ t. set (set xs i other) i t) made ∙ replaced_at f xs i x other found))
