-- A turn of the loops over qualifiers, stars and sizes.
use Rattle.std.proofs.Common.{◌≡◌, ℕ, suc, ◌+◌, ◌<◌, ◌≤◌, Bool, true, false, List, [], ◌∷◌, ◌++◌, length, drop, get_or, refl, sym, ap, ◌∙◌, arith}
use Rattle.std.proofs.Math.Seq.{drop-cons}
use Rattle.std.proofs.lemmas.List.{drop_all}
use Rattle.core_tree.specs.declared.types.Ty.{Ty}
use Rattle.core_tree.specs.declared.types.Ty.TheVariants as ty
use Rattle.c_tree.specs.declared.qualified.Qual.{Qual}
use Rattle.c_tree.specs.declared.qualified.Qual.TheVariants.{Const, Volatile}
use Rattle.c_typing.specs.TypeNames.{Qualified, has_const, pointed, arrays}

pub next_is : {A : Type 0} (all : List A) (i : ℕ) (x : A) → i < length all → x ≡ get_or all i x
    → drop i all ≡ x ∷ drop (i + 1) all
next_is all i x h here =
    let n : suc i ≡ i + 1 = omega arith in
    drop-cons all i x h ∙ (ap (λ y. y ∷ drop (suc i) all) (sym here) ∙ ap (λ k. x ∷ drop k all) n)

pub const_turn : (all : List Qual) (i : ℕ) (q : Qual) → i < length all → q ≡ get_or all i q → q ≡ Volatile
    → has_const (drop i all) ≡ has_const (drop (i + 1) all)
const_turn all i q h here is = rw (next_is all i q h here, is) refl

pub const_here : (all : List Qual) (i : ℕ) (q : Qual) → i < length all → q ≡ get_or all i q → q ≡ Const
    → has_const (drop i all) ≡ true
const_here all i q h here is = rw (next_is all i q h here, is) refl

pub const_nowhere : (all : List Qual) (i : ℕ) → length all ≤ i → has_const (drop i all) ≡ false
const_nowhere all i h = rw (drop_all i all h) refl

pub pointed_turn : (t : Ty) (constant : Bool) (all : List (List Qual)) (i : ℕ) (quals : List Qual) → i < length all
    → quals ≡ get_or all i quals
    → pointed (record { ty = t; readonly = constant }) (drop i all)
    ≡ pointed (record { ty = ty.Pointer t constant; readonly = has_const quals }) (drop (i + 1) all)
pointed_turn t constant all i quals h here = rw (next_is all i quals h here) refl

pub pointed_end : (t : Qualified) (all : List (List Qual)) (i : ℕ) → length all ≤ i → pointed t (drop i all) ≡ t
pointed_end t all i h = rw (drop_all i all h) refl

pub arrays_last : (ns : List ℕ) (n : ℕ) (t : Ty) → arrays t (ns ++ n ∷ []) ≡ arrays (ty.Array t n) ns
arrays_last [] n t = refl
arrays_last (m ∷ ns) n t = ap (λ u. ty.Array u m) (arrays_last ns n t)
