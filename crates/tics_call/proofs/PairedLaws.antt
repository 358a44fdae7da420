-- Lists that are paired place by place, and lists with a last element.
use Rattle.std.proofs.Common.{◌≡◌, ℕ, ◌+◌, ◌<◌, zero, suc, List, [], ◌∷◌, ◌++◌, length, take, get_or, refl, sym, ap, ◌∙◌, subst, arith}
use Rattle.std.proofs.lemmas.List.{take_more}
use Rattle.tics_call.specs.Form.{Pairs, none, more}

-- a pair more at the end
pub paired_push : {A B : Type 0} (R : A → B → Type 0) (xs : List A) (ys : List B) (x : A) (y : B) → Pairs R xs ys → R x y
    → Pairs R (xs ++ x ∷ []) (ys ++ y ∷ [])
paired_push R [] [] x y none r = more r none
paired_push R [] (b ∷ ys) x y p r = elim p [ ]
paired_push R (a ∷ xs) [] x y p r = elim p [ ]
paired_push R (a ∷ xs) (b ∷ ys) x y (more s p) r = more s (paired_push R xs ys x y p r)

pub paired_start : {A B : Type 0} (R : A → B → Type 0) (xs : List A) (ys : List B) → xs ≡ [] → Pairs R xs (take 0 ys)
paired_start {A = A} R xs ys e = subst (λ (zs : List A). Pairs R zs (take 0 ys)) (sym e) none

-- a pair more in front of a place
pub paired_more : {A B : Type 0} (R : A → B → Type 0) (xs zs : List A) (ys : List B) (i : ℕ) (x : A) (y : B)
    → Pairs R xs (take i ys) → i < length ys → y ≡ get_or ys i y → R x y
    → zs ≡ xs ++ x ∷ [] → Pairs R zs (take (i + 1) ys)
paired_more {A = A} {B = B} R xs zs ys i x y p h is r e =
    let more_of : take (i + 1) ys ≡ take i ys ++ y ∷ [] = take_more ys i y h ∙ ap (λ (z : B). take i ys ++ z ∷ []) (sym is) in
    let pushed : Pairs R (xs ++ x ∷ []) (take (i + 1) ys) = subst (λ (zs : List B). Pairs R (xs ++ x ∷ []) zs) (sym more_of)
    (paired_push R xs (take i ys) x y p r) in
    subst (λ (us : List A). Pairs R us (take (i + 1) ys)) (sym e) pushed

-- what stands at a place has a pair
pub paired_at : {A B : Type 0} (R : A → B → Type 0) (xs : List A) (ys : List B) (i : ℕ) (y : B) → Pairs R xs ys
    → i < length ys → (x : A) × R x (get_or ys i y)
paired_at R [] [] i y none h = absurd (omega arith)
paired_at R [] (b ∷ ys) i y p h = elim p [ ]
paired_at R (x ∷ xs) [] i y p h = elim p [ ]
paired_at R (x ∷ xs) (b ∷ ys) zero y (more r p) h = (x, r)
paired_at R (x ∷ xs) (b ∷ ys) (suc i) y (more r p) h = paired_at R xs ys i y p (omega arith)

pub unpaired : {A B : Type 0} (R : A → B → Type 0) (xs : List A) (ys : List B) (i : ℕ) (y : B) → i < length ys
    → y ≡ get_or ys i y → ((x : A) → R x y → ⊥) → Pairs R xs ys → ⊥
unpaired {A = A} R xs ys i y h is none_fits p =
    let at = paired_at R xs ys i y p h in none_fits at.0 (subst (λ (z : _). R at.0 z) (sym is) at.1)

-- where each has one pair at most, each list has
pub one_pairing : {A B : Type 0} (R : A → B → Type 0) (xs zs : List A) (ys : List B)
    → ((x z : A) (y : B) → R x y → R z y → x ≡ z) → Pairs R xs ys → Pairs R zs ys → xs ≡ zs
one_pairing R [] [] [] one none none = refl
one_pairing R [] [] (y ∷ ys) one p q = elim p [ ]
one_pairing R [] (z ∷ zs) [] one p q = elim q [ ]
one_pairing R [] (z ∷ zs) (y ∷ ys) one p q = elim p [ ]
one_pairing R (x ∷ xs) [] [] one p q = elim p [ ]
one_pairing R (x ∷ xs) [] (y ∷ ys) one p q = elim q [ ]
one_pairing R (x ∷ xs) (z ∷ zs) [] one p q = elim p [ ]
one_pairing {A = A} R (x ∷ xs) (z ∷ zs) (y ∷ ys) one (more r p) (more s q) =
    ap (λ (a : A). a ∷ xs) (one x z y r s) ∙ ap (λ (us : List A). z ∷ us) (one_pairing R xs zs ys one p q)

-- a list has one last element
pub same_last : {A : Type 0} (xs ys : List A) (x y : A) → xs ++ x ∷ [] ≡ ys ++ y ∷ [] → (xs ≡ ys) × (x ≡ y)
same_last [] [] x y e = (refl, cc)
same_last [] (b ∷ []) x y e = cc
same_last [] (b ∷ c ∷ ys) x y e = cc
same_last (a ∷ []) [] x y e = cc
same_last (a ∷ c ∷ xs) [] x y e = cc
same_last {A = A} (a ∷ xs) (b ∷ ys) x y e =
    let head : a ≡ b = cc in
    let tail : xs ++ x ∷ [] ≡ ys ++ y ∷ [] = cc in
    let rest = same_last xs ys x y tail in
    (ap (λ (c : A). c ∷ xs) head ∙ ap (λ (cs : List A). b ∷ cs) rest.0, rest.1)
