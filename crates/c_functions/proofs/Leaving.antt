-- Names are taken back from the end.
use Rattle.std.proofs.Common.{◌≡◌, ℕ, ◌<◌, ◌≤◌, List, [], ◌∷◌, ◌++◌, length, take, refl, ap, arith}
use Rattle.std.proofs.lemmas.List.{take-append-le, take_all, length_push}

pub kept : {A : Type 0} (n : ℕ) (all xs : List A) (x : A) → all ≡ xs ++ x ∷ [] → n < length all
    → take n xs ≡ take n all
kept n all xs x is h =
    let e = length_push xs x in
    let l = ap length is in
    let b : n ≤ length xs = omega arith in
    rw is (rw take-append-le refl)

pub all_kept : {A : Type 0} (n : ℕ) (xs : List A) → length xs ≤ n → take n xs ≡ xs
all_kept n xs h = take_all n xs h
