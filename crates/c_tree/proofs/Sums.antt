-- The joined numbers of a list, one element at a time.
use Rattle.std.proofs.Common.{◌≡◌, ℕ, ◌+◌, ◌<◌, ◌≤◌, List, [], ◌∷◌, ◌++◌, map, max, take, length, get_or, arith, refl}
use Rattle.std.proofs.lemmas.List.{map_more, take_all}
use Rattle.c_tree.specs.Measure.{Join, joined, all, sum}

joined-sum-append : (ns : List ℕ) (n : ℕ) → joined sum (ns ++ n ∷ []) ≡ joined sum ns + n
joined-sum-append [] n = omega arith
joined-sum-append (m ∷ ns) n = omega (arith, joined-sum-append ns n)

joined-max-append : (ns : List ℕ) (n : ℕ) → joined max (ns ++ n ∷ []) ≡ max (joined max ns) n
joined-max-append [] n = omega arith
joined-max-append (m ∷ ns) n = omega (arith, joined-max-append ns n)

pub sum_more : {A : Type 0} (measure : A → ℕ) (xs : List A) (i : ℕ) (d : A) → i < length xs
    → all sum measure (take (i + 1) xs) ≡ all sum measure (take i xs) + measure (get_or xs i d)
sum_more measure xs i d h =
    rw (map_more measure xs i d h) (joined-sum-append (map measure (take i xs)) (measure (get_or xs i d)))

pub max_more : {A : Type 0} (measure : A → ℕ) (xs : List A) (i : ℕ) (d : A) → i < length xs
    → all max measure (take (i + 1) xs) ≡ max (all max measure (take i xs)) (measure (get_or xs i d))
max_more measure xs i d h =
    rw (map_more measure xs i d h) (joined-max-append (map measure (take i xs)) (measure (get_or xs i d)))

pub all_taken : {A : Type 0} (join : Join) (measure : A → ℕ) (xs : List A) (n : ℕ) → length xs ≤ n
    → all join measure (take n xs) ≡ all join measure xs
all_taken join measure xs n h = rw (take_all n xs h) refl
