-- Loops that write f x over each element x of a list.
use Rattle.std.proofs.Common.{◌≡◌, ℕ, zero, suc, ◌+◌, ◌<◌, List, [], ◌∷◌, ◌++◌, length, get_or, set, take, drop, map, Some, refl, arith, ap, sym, ◌∙◌, length-append, length-drop}
use Rattle.std.proofs.lemmas.List.{length-map, length-take-le}
use Rattle.std.proofs.lemmas.List.Edits.{map_over_more}
use Rattle.std.specs.Prelude.{slice_get}

pub any_default : {X : Type 0} (xs : List X) (i : ℕ) (d e : X) → i < length xs → get_or xs i d ≡ get_or xs i e
any_default [] i d e h = absurd (omega arith)
any_default (x ∷ xs) zero d e h = refl
any_default (x ∷ xs) (suc i) d e h = any_default xs i d e (omega arith)

-- y is f of what stands at i
pub put_more : {X : Type 0} (f : X → X) (xs ys : List X) (i : ℕ) (y d : X) → i < length xs → i < length ys
    → ys ≡ map f (take i xs) ++ drop i xs → y ≡ f (get_or ys i d) → set ys i y ≡ map f (take (i + 1) xs) ++ drop (i + 1) xs
put_more f xs ys i y d h k e is =
    ap (λ z. set ys i z) is ∙ map_over_more f xs ys i (get_or ys i d) h e (any_default ys i d (get_or ys i d) k)

got : {X : Type 0} (xs : List X) (i : ℕ) (x : X) → slice_get xs i ≡ Some x → get_or xs i x ≡ x
got [] i x e = cc
got (y ∷ xs) zero x e = cc
got (y ∷ xs) (suc i) x e = got xs i x e

got_within : {X : Type 0} (xs : List X) (i : ℕ) (x : X) → slice_get xs i ≡ Some x → i < length xs
got_within [] i x e = cc
got_within (y ∷ xs) zero x e = omega arith
got_within (y ∷ xs) (suc i) x e = omega (arith, got_within xs i x e)

set_twice : {X : Type 0} (xs : List X) (i : ℕ) (a b : X) → set (set xs i a) i b ≡ set xs i b
set_twice [] i a b = refl
set_twice (x ∷ xs) zero a b = refl
set_twice (x ∷ xs) (suc i) a b = ap (λ t. x ∷ t) (set_twice xs i a b)

-- what stands at i is taken out, with something else in its place, and f of it put back
pub put_back : {X : Type 0} (f : X → X) (xs ys : List X) (i : ℕ) (x other : X) → i < length xs
    → ys ≡ map f (take i xs) ++ drop i xs → slice_get ys i ≡ Some x → set (set ys i other) i (f x) ≡ map f (take (i + 1) xs) ++ drop (i + 1) xs
put_back f xs ys i x other h e is =
    set_twice ys i other (f x) ∙ map_over_more f xs ys i x h e (sym (got ys i x is))

all_long : {X : Type 0} (f : X → X) (xs ys : List X) (i : ℕ) → i < length xs → ys ≡ map f (take i xs) ++ drop i xs → length ys ≡ length xs
all_long f xs ys i h e =
    let t : length (take i xs) ≡ i = length-take-le i xs (omega arith) in
    ap length e ∙ simp (length-append, length-map, length-drop) (omega (arith, t))

-- one turn of a loop that writes f of a copy of each element over it
pub written_turn : {X : Type 0} (f : X → X) (xs ys zs ws : List X) (i n : ℕ) (y d : X) → n ≡ length xs → i < n
    → ys ≡ map f (take i xs) ++ drop i xs → zs ≡ ys → y ≡ f (get_or zs i d) → ws ≡ set ys i y
    → ws ≡ map f (take (i + 1) xs) ++ drop (i + 1) xs
written_turn f xs ys zs ws i n y d size h e same is written =
    let within : i < length xs = omega arith in
    let long : length ys ≡ length xs = all_long f xs ys i within e in
    written ∙ put_more f xs ys i y d within (omega arith) e (is ∙ ap (λ l. f (get_or l i d)) same)

-- one turn of a loop that takes each element out and puts f of it back
pub replaced_turn : {X : Type 0} (f : X → X) (xs ys zs ws : List X) (i n : ℕ) (x y other : X) → n ≡ length xs → i < n
    → ys ≡ map f (take i xs) ++ drop i xs → slice_get ys i ≡ Some x → zs ≡ set ys i other → y ≡ f x → ws ≡ set zs i y
    → ws ≡ map f (take (i + 1) xs) ++ drop (i + 1) xs
replaced_turn f xs ys zs ws i n x y other size h e found rest is written =
    let within : i < length xs = omega arith in
    written ∙ (ap (λ l. set l i y) rest ∙ (ap (λ z. set (set ys i other) i z) is ∙ put_back f xs ys i x other within e found))
