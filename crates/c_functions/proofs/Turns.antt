-- A turn of the loops over parameters, types and names.
use Rattle.std.proofs.Common.{◌≡◌, ℕ, suc, ◌+◌, ◌<◌, ◌≤◌, Bool, true, false, List, [], ◌∷◌, ◌++◌, length, get_or, drop, Option, None, Some, refl, sym, ap, ◌∙◌, append-nil, append_assoc, arith}
use Rattle.std.proofs.Math.Seq.{drop-cons}
use Rattle.std.proofs.lemmas.List.{drop_all}
use Rattle.std.specs.Prelude.{◌&&◌, bytes_eq}
use Rattle.core_tree.specs.declared.types.Ty.{Ty}
use Rattle.core_tree.specs.Types.{same}
use Rattle.c_typing.specs.declared.environment.Env.{Env}
use Rattle.c_typing.specs.Scopes.{is_sized}
use Rattle.c_checking.specs.declared.draft.Parameter.{Parameter}
use Rattle.c_checking.specs.Functions.{enter_parameter, enter_parameters, names_of, types_of, place_from, is_struct, have_struct, same_types, are_sized}

pub next_is : {A : Type 0} (all : List A) (i : ℕ) (x : A) → i < length all → x ≡ get_or all i x → drop i all ≡ x ∷ drop (i + 1) all
next_is all i x h here =
    let n : suc i ≡ i + 1 = omega arith in
    drop-cons all i x h ∙ (ap (λ y. y ∷ drop (suc i) all) (sym here) ∙ ap (λ k. x ∷ drop k all) n)

-- ---- parameters enter a scope

pub enter_turn : (all : List Parameter) (i : ℕ) (p : Parameter) (env : Env) → i < length all → p ≡ get_or all i p
    → enter_parameters (drop i all) env ≡ enter_parameters (drop (i + 1) all) (enter_parameter p env)
enter_turn all i p env h here = rw (next_is all i p h here) refl

pub enter_end : (all : List Parameter) (i : ℕ) (env : Env) → length all ≤ i → enter_parameters (drop i all) env ≡ env
enter_end all i env h = rw (drop_all i all h) refl

-- ---- names and types

name_case : (found : List (List ℕ)) (p : Parameter) (more : List Parameter) (name : Option (List ℕ)) (n : List ℕ)
    → p.name ≡ Some n → found ++ names_of (p ∷ more) ≡ (found ++ n ∷ []) ++ names_of more
name_case found p more name n is = rw is (sym (append_assoc found (n ∷ []) (names_of more)))

pub named_turn : (found : List (List ℕ)) (all : List Parameter) (i : ℕ) (p : Parameter) (n : List ℕ) → i < length all
    → p ≡ get_or all i p → p.name ≡ Some n
    → found ++ names_of (drop i all) ≡ (found ++ n ∷ []) ++ names_of (drop (i + 1) all)
named_turn found all i p n h here is =
    rw (next_is all i p h here) (name_case found p (drop (i + 1) all) p.name n is)

pub unnamed_turn : (found : List (List ℕ)) (all : List Parameter) (i : ℕ) (p : Parameter) → i < length all
    → p ≡ get_or all i p → p.name ≡ None → found ++ names_of (drop i all) ≡ found ++ names_of (drop (i + 1) all)
unnamed_turn found all i p h here is = rw (next_is all i p h here) (rw is refl)

pub names_end : (found : List (List ℕ)) (all : List Parameter) (i : ℕ) → length all ≤ i → found ++ names_of (drop i all) ≡ found
names_end found all i h = rw (drop_all i all h) (append-nil found)

pub types_turn : (found : List Ty) (all : List Parameter) (i : ℕ) (p : Parameter) → i < length all → p ≡ get_or all i p
    → found ++ types_of (drop i all) ≡ (found ++ p.ty ∷ []) ++ types_of (drop (i + 1) all)
types_turn found all i p h here =
    rw (next_is all i p h here) (sym (append_assoc found (p.ty ∷ []) (types_of (drop (i + 1) all))))

pub types_end : (found : List Ty) (all : List Parameter) (i : ℕ) → length all ≤ i → found ++ types_of (drop i all) ≡ found
types_end found all i h = rw (drop_all i all h) (append-nil found)

pub copied_turn : (found : List Ty) (all : List Ty) (i : ℕ) (t : Ty) → i < length all → t ≡ get_or all i t
    → found ++ drop i all ≡ (found ++ t ∷ []) ++ drop (i + 1) all
copied_turn found all i t h here = rw (next_is all i t h here) (sym (append_assoc found (t ∷ []) (drop (i + 1) all)))

pub copied_end : (found : List Ty) (all : List Ty) (i : ℕ) → length all ≤ i → found ++ drop i all ≡ found
copied_end found all i h = rw (drop_all i all h) (append-nil found)

pub place_turn : (all : List (List ℕ)) (i : ℕ) (x name : List ℕ) → i < length all → x ≡ get_or all i x
    → bytes_eq x name ≡ false → place_from i (drop i all) name ≡ place_from (i + 1) (drop (i + 1) all) name
place_turn all i x name h here other = rw (next_is all i x h here, other) refl

pub place_here : (all : List (List ℕ)) (i : ℕ) (x name : List ℕ) → i < length all → x ≡ get_or all i x
    → bytes_eq x name ≡ true → place_from i (drop i all) name ≡ i
place_here all i x name h here same = rw (next_is all i x h here, same) refl

pub place_nowhere : (all : List (List ℕ)) (i : ℕ) (name : List ℕ) → length all ≤ i → place_from i (drop i all) name ≡ 0
place_nowhere all i name h = rw (drop_all i all h) refl

-- ---- rules

pub struct_turn : (all : List Parameter) (i : ℕ) (p : Parameter) → i < length all → p ≡ get_or all i p
    → is_struct p.ty ≡ false → have_struct (types_of (drop i all)) ≡ have_struct (types_of (drop (i + 1) all))
struct_turn all i p h here is = rw (next_is all i p h here, is) refl

pub struct_here : (all : List Parameter) (i : ℕ) (p : Parameter) → i < length all → p ≡ get_or all i p
    → is_struct p.ty ≡ true → have_struct (types_of (drop i all)) ≡ true
struct_here all i p h here is = rw (next_is all i p h here, is) refl

pub struct_nowhere : (all : List Parameter) (i : ℕ) → length all ≤ i → have_struct (types_of (drop i all)) ≡ false
struct_nowhere all i h = rw (drop_all i all h) refl

pub same_turn : (types : List Ty) (all : List Parameter) (i : ℕ) (t : Ty) (p : Parameter)
    → i < length types → t ≡ get_or types i t → i < length all → p ≡ get_or all i p → same t p.ty ≡ true
    → same_types (drop i types) (types_of (drop i all)) ≡ same_types (drop (i + 1) types) (types_of (drop (i + 1) all))
same_turn types all i t p g there h here is = rw (next_is types i t g there, next_is all i p h here, is) refl

pub same_not : (types : List Ty) (all : List Parameter) (i : ℕ) (t : Ty) (p : Parameter)
    → i < length types → t ≡ get_or types i t → i < length all → p ≡ get_or all i p → same t p.ty ≡ false
    → same_types (drop i types) (types_of (drop i all)) ≡ false
same_not types all i t p g there h here is = rw (next_is types i t g there, next_is all i p h here, is) refl

pub same_end : (types : List Ty) (all : List Parameter) (i : ℕ) → length types ≡ length all → length all ≤ i
    → same_types (drop i types) (types_of (drop i all)) ≡ true
same_end types all i lengths h =
    let g : length types ≤ i = omega (arith, lengths) in
    rw (drop_all i types g, drop_all i all h) refl

and_right : (a b : Bool) → (a && b) ≡ true → b ≡ true
and_right true b is = is
and_right false b is = absurd (cc)

pub same_lengths : (types : List Ty) (all : List Parameter) → same_types types (types_of all) ≡ true → length types ≡ length all
same_lengths [] [] is = refl
same_lengths [] (p ∷ all) is = absurd (cc)
same_lengths (t ∷ types) [] is = absurd (cc)
same_lengths (t ∷ types) (p ∷ all) is = ap suc (same_lengths types all (and_right (same t p.ty) (same_types types (types_of all)) is))

unequal_case : (types : List Ty) (all : List Parameter) (b : Bool) → same_types types (types_of all) ≡ b
    → (length types ≡ length all → ⊥) → b ≡ false
unequal_case types all false is h = refl
unequal_case types all true is h = absurd (h (same_lengths types all is))

pub unequal : (types : List Ty) (all : List Parameter) → (length types ≡ length all → ⊥) → same_types types (types_of all) ≡ false
unequal types all h = unequal_case types all (same_types types (types_of all)) refl h

pub sized_turn : (env : Env) (all : List Parameter) (i : ℕ) (p : Parameter) → i < length all → p ≡ get_or all i p
    → is_sized env p.ty ≡ true → are_sized env (types_of (drop i all)) ≡ are_sized env (types_of (drop (i + 1) all))
sized_turn env all i p h here is = rw (next_is all i p h here, is) refl

pub sized_not : (env : Env) (all : List Parameter) (i : ℕ) (p : Parameter) → i < length all → p ≡ get_or all i p
    → is_sized env p.ty ≡ false → are_sized env (types_of (drop i all)) ≡ false
sized_not env all i p h here is = rw (next_is all i p h here, is) refl

pub sized_end : (env : Env) (all : List Parameter) (i : ℕ) → length all ≤ i → are_sized env (types_of (drop i all)) ≡ true
sized_end env all i h = rw (drop_all i all h) refl
