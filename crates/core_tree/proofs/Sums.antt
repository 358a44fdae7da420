-- Totals and heights of lists, one element at a time.
use Rattle.std.proofs.Common.{◌≡◌, ℕ, ◌+◌, ◌<◌, List, [], ◌∷◌, ◌++◌, map, max, take, length, get_or, arith, length-take-le}
use Rattle.std.proofs.lemmas.List.{map_more, length-map}
use Rattle.core_tree.specs.Heights.{tallest, tallest_from}
use Rattle.core_tree.specs.Nodes.{total}

total-last : (ns : List ℕ) (n : ℕ) → total (ns ++ n ∷ []) ≡ total ns + n
total-last [] n = omega arith
total-last (m ∷ ns) n = omega (arith, total-last ns n)

tallest-last : (ns : List ℕ) (n : ℕ) → tallest (ns ++ n ∷ []) ≡ max (tallest ns) n
tallest-last [] n = omega arith
tallest-last (m ∷ ns) n = omega (arith, tallest-last ns n)

tallest_from-last : (i : ℕ) (ns : List ℕ) (n : ℕ) → tallest_from i (ns ++ n ∷ []) ≡ max (tallest_from i ns) (i + length ns + n)
tallest_from-last i [] n = omega arith
tallest_from-last i (m ∷ ns) n = omega (arith, tallest_from-last (i + 1) ns n)

pub total_more : {A : Type 0} (f : A → ℕ) (xs : List A) (i : ℕ) (d : A) → i < length xs
    → total (map f (take (i + 1) xs)) ≡ total (map f (take i xs)) + f (get_or xs i d)
total_more f xs i d h = rw (map_more f xs i d h) (total-last (map f (take i xs)) (f (get_or xs i d)))

pub tallest_more : {A : Type 0} (f : A → ℕ) (xs : List A) (i : ℕ) (d : A) → i < length xs
    → tallest (map f (take (i + 1) xs)) ≡ max (tallest (map f (take i xs))) (f (get_or xs i d))
tallest_more f xs i d h = rw (map_more f xs i d h) (tallest-last (map f (take i xs)) (f (get_or xs i d)))

pub held_more : {A : Type 0} (f : A → ℕ) (xs : List A) (i : ℕ) (d : A) → i < length xs
    → tallest_from 0 (map f (take (i + 1) xs)) ≡ max (tallest_from 0 (map f (take i xs))) (i + f (get_or xs i d))
held_more f xs i d h =
    let short : length (map f (take i xs)) ≡ i = rw (length-map (take i xs) f) (length-take-le i xs (omega arith)) in
    rw (map_more f xs i d h) (omega (arith, tallest_from-last 0 (map f (take i xs)) (f (get_or xs i d)), short))
