-- The test on two texts.
use Rattle.std.proofs.Common.{◌≡◌, ℕ, true, List, bytes_eq, rules}
use Rattle.std.proofs.lemmas.Slice.Eq.{bytes_eq-Decides}

pub text_is : (xs ys : List ℕ) → bytes_eq xs ys ≡ true → xs ≡ ys
text_is xs ys h = grind (rules, bytes_eq-Decides xs ys)

pub text_same : (xs ys : List ℕ) → xs ≡ ys → bytes_eq xs ys ≡ true
text_same xs ys h = grind (rules, bytes_eq-Decides xs ys)
