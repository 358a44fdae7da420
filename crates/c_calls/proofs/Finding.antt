-- Turns of the searches through lists.
use Rattle.std.proofs.Common.{◌≡◌, ℕ, ◌+◌, ◌<◌, true, false, List, ◌∷◌, ◌++◌, length, get_or, drop, map, Option, refl, ap, sym, ◌∙◌, add-one, drop-cons}
use Rattle.std.specs.Prelude.{bytes_eq, ◌≤◌}
use Rattle.std.proofs.lemmas.List.{drop_all}
use Rattle.core_tree.specs.Reaching.{joined}
use Rattle.c_tree.specs.declared.expression.Expr.{Expr}
use Rattle.c_tree.specs.declared.declarations.Initial.{Initial}
use Rattle.c_tree.specs.declared.statements.BlockItem.{BlockItem}
use Rattle.c_tree.specs.declared.statements.Group.{Group}
use Rattle.c_tree.specs.declared.statements.Statement.{Statement}
use Rattle.c_tree.specs.declared.unit.External.{External}
use Rattle.c_checking.specs.Externals.{is_one_of}
use Rattle.c_checking.specs.Calls.{or_later, first_of, in_expr, in_exprs, in_initial, definition_by}
use Rattle.c_calls.specs.Parts.{in_statement, in_item, in_group}

pub next_is : {A : Type 0} (all : List A) (i : ℕ) (x : A) → i < length all → x ≡ get_or all i x → drop i all ≡ x ∷ drop (i + 1) all
next_is all i x h here = rw (add-one) (drop-cons all i x h) ∙ ap (λ y. y ∷ drop (i + 1) all) (sym here)

pub one_turn : (all : List (List ℕ)) (i : ℕ) (x name : List ℕ) → i < length all → x ≡ get_or all i x
    → bytes_eq x name ≡ false → is_one_of (drop i all) name ≡ is_one_of (drop (i + 1) all) name
one_turn all i x name h here other = rw (next_is all i x h here, other) refl

pub one_here : (all : List (List ℕ)) (i : ℕ) (x name : List ℕ) → i < length all → x ≡ get_or all i x
    → bytes_eq x name ≡ true → is_one_of (drop i all) name ≡ true
one_here all i x name h here same = rw (next_is all i x h here, same) refl

pub one_nowhere : (all : List (List ℕ)) (i : ℕ) (name : List ℕ) → length all ≤ i → is_one_of (drop i all) name ≡ false
one_nowhere all i name h = rw (drop_all i all h) refl

-- what is found in one of a list and in those behind it
pub first_turn : {A : Type 0} (find : A → Option ℕ) (all : List A) (i : ℕ) (x : A) → i < length all → x ≡ get_or all i x
    → first_of (map find (drop i all)) ≡ or_later (find x) (first_of (map find (drop (i + 1) all)))
first_turn find all i x h here = ap (λ xs. first_of (map find xs)) (next_is all i x h here)

pub exprs_turn : (names : List (List ℕ)) (all : List Expr) (i : ℕ) (x : Expr) → i < length all → x ≡ get_or all i x
    → in_exprs names (drop i all) ≡ or_later (in_expr names x) (in_exprs names (drop (i + 1) all))
exprs_turn names all i x h here = first_turn (in_expr names) all i x h here

pub initials_turn : (names : List (List ℕ)) (all : List Initial) (i : ℕ) (x : Initial) → i < length all → x ≡ get_or all i x
    → first_of (map (in_initial names) (drop i all)) ≡ or_later (in_initial names x) (first_of (map (in_initial names) (drop (i + 1) all)))
initials_turn names all i x h here = first_turn (in_initial names) all i x h here

pub items_turn : (names : List (List ℕ)) (all : List BlockItem) (i : ℕ) (x : BlockItem) → i < length all → x ≡ get_or all i x
    → first_of (map (in_item names) (drop i all)) ≡ or_later (in_item names x) (first_of (map (in_item names) (drop (i + 1) all)))
items_turn names all i x h here = first_turn (in_item names) all i x h here

pub groups_turn : (names : List (List ℕ)) (all : List Group) (i : ℕ) (x : Group) → i < length all → x ≡ get_or all i x
    → first_of (map (in_group names) (drop i all)) ≡ or_later (in_group names x) (first_of (map (in_group names) (drop (i + 1) all)))
groups_turn names all i x h here = first_turn (in_group names) all i x h here

pub statements_turn : (names : List (List ℕ)) (all : List Statement) (i : ℕ) (x : Statement) → i < length all → x ≡ get_or all i x
    → first_of (map (in_statement names) (drop i all)) ≡ or_later (in_statement names x) (first_of (map (in_statement names) (drop (i + 1) all)))
statements_turn names all i x h here = first_turn (in_statement names) all i x h here

pub definitions_turn : (all : List External) (i : ℕ) (x : External) → i < length all → x ≡ get_or all i x
    → joined (map definition_by (drop i all)) ≡ definition_by x ++ joined (map definition_by (drop (i + 1) all))
definitions_turn all i x h here = ap (λ xs. joined (map definition_by xs)) (next_is all i x h here)
