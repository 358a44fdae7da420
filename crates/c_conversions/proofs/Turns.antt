-- A turn of the searches through structs and members.
use Rattle.std.proofs.Common.{◌≡◌, ℕ, suc, ◌+◌, ◌<◌, ◌≤◌, List, ◌∷◌, length, get_or, drop, true, false, Some, None}
use Rattle.std.proofs.Common.{refl, sym, ap, ◌∙◌, arith}
use Rattle.std.specs.Prelude.{bytes_eq, nat_lt, nat_le}
use Rattle.std.proofs.Math.Seq.{drop-cons}
use Rattle.std.proofs.lemmas.List.{drop_all}
use Rattle.std.proofs.lemmas.Bool.Decides.{nat_tests}
use Rattle.core_tree.specs.declared.types.Struct.{Struct}
use Rattle.core_tree.specs.declared.types.Member.{Member}
use Rattle.c_typing.specs.Scopes.{tag_from, member_from}
use Rattle.c_conversions.specs.Members.{found_at}

next_is : {A : Type 0} (all : List A) (i : ℕ) (x : A) → i < length all → x ≡ get_or all i x → drop i all ≡ x ∷ drop (i + 1) all
next_is all i x h here =
    let n : suc i ≡ i + 1 = omega arith in
    drop-cons all i x h ∙ (ap (λ y. y ∷ drop (suc i) all) (sym here) ∙ ap (λ k. x ∷ drop k all) n)

pub tag_turn : (all : List Struct) (i : ℕ) (s : Struct) (tag : List ℕ) → i < length all → s ≡ get_or all i s
    → bytes_eq s.name tag ≡ false → tag_from i tag (drop i all) ≡ tag_from (i + 1) tag (drop (i + 1) all)
tag_turn all i s tag h here other = rw (next_is all i s h here, other) refl

pub tag_here : (all : List Struct) (i : ℕ) (s : Struct) (tag : List ℕ) → i < length all → s ≡ get_or all i s
    → bytes_eq s.name tag ≡ true → tag_from i tag (drop i all) ≡ Some i
tag_here all i s tag h here same = rw (next_is all i s h here, same) refl

pub tag_nowhere : (all : List Struct) (i : ℕ) (tag : List ℕ) → length all ≤ i → tag_from i tag (drop i all) ≡ None
tag_nowhere all i tag h = rw (drop_all i all h) refl

pub member_turn : (all : List Member) (i : ℕ) (m : Member) (name : List ℕ) → i < length all → m ≡ get_or all i m
    → bytes_eq m.name name ≡ false → member_from i name (drop i all) ≡ member_from (i + 1) name (drop (i + 1) all)
member_turn all i m name h here other = rw (next_is all i m h here, other) refl

pub member_here : (all : List Member) (i : ℕ) (m : Member) (name : List ℕ) → i < length all → m ≡ get_or all i m
    → bytes_eq m.name name ≡ true → member_from i name (drop i all) ≡ found_at i m.ty
member_here all i m name h here same = rw (next_is all i m h here, same) refl

pub member_nowhere : (all : List Member) (i : ℕ) (name : List ℕ) → length all ≤ i → member_from i name (drop i all) ≡ None
member_nowhere all i name h = rw (drop_all i all h) refl

pub at_most_is_below : (a b : ℕ) → nat_le a b ≡ nat_lt a (b + 1)
at_most_is_below a b = grind (arith, nat_tests)
