-- Lists whose elements belong together, place by place.
use Rattle.std.proofs.Common.{◌≡◌, ℕ, zero, suc, ◌<◌, List, [], ◌∷◌, ◌++◌, length, get_or, ap, refl, arith}
use Rattle.std.specs.List.{AllZip}

pub zip_at : {A B : Type 0} (R : A → B → Type 0) (xs : List A) (ys : List B) (i : ℕ) (d : A) (e : B) → AllZip R xs ys
    → i < length xs
    → R (get_or xs i d) (get_or ys i e)
zip_at R [] ys i d e all h = absurd (omega arith)
zip_at R (x ∷ xs) [] i d e all h = absurd all
zip_at R (x ∷ xs) (y ∷ ys) zero d e all h = all.0
zip_at R (x ∷ xs) (y ∷ ys) (suc i) d e all h = zip_at R xs ys i d e all.1 (omega arith)

pub length-zip : {A B : Type 0} (R : A → B → Type 0) (xs : List A) (ys : List B) → AllZip R xs ys → length xs ≡ length ys
length-zip R [] [] all = refl
length-zip R [] (y ∷ ys) all = absurd all
length-zip R (x ∷ xs) [] all = absurd all
length-zip R (x ∷ xs) (y ∷ ys) all = ap suc (length-zip R xs ys all.1)

pub zip-last : {A B : Type 0} (R : A → B → Type 0) (xs : List A) (ys : List B) (x : A) (y : B) → AllZip R xs ys → R x y
    → AllZip R (xs ++ x ∷ []) (ys ++ y ∷ [])
zip-last R [] [] x y all one = (one, tt)
zip-last R [] (z ∷ ys) x y all one = absurd all
zip-last R (w ∷ xs) [] x y all one = absurd all
zip-last R (w ∷ xs) (z ∷ ys) x y all one = (all.0, zip-last R xs ys x y all.1 one)
