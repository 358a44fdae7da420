-- Turns of the searches for annotations.
use Rattle.std.proofs.Common.{◌≡◌, ℕ, ◌+◌, ◌<◌, List, length, get_or, drop, map, ap}
use Rattle.std.specs.Prelude.{◌||◌}
use Rattle.c_tree.specs.declared.statements.BlockItem.{BlockItem}
use Rattle.c_tree.specs.declared.statements.Group.{Group}
use Rattle.c_tree.specs.declared.statements.Statement.{Statement}
use Rattle.c_tree.specs.declared.unit.External.{External}
use Rattle.c_checking.specs.Annotations.{any_of, is_annotated}
use Rattle.c_calls.specs.Parts.{statement_has, item_has, group_has}
use Rattle.c_calls.proofs.Finding.{next_is}

pub items_turn : (all : List BlockItem) (i : ℕ) (x : BlockItem) → i < length all → x ≡ get_or all i x
    → any_of (map item_has (drop i all)) ≡ (item_has x || any_of (map item_has (drop (i + 1) all)))
items_turn all i x h here = ap (λ xs. any_of (map item_has xs)) (next_is all i x h here)

pub groups_turn : (all : List Group) (i : ℕ) (x : Group) → i < length all → x ≡ get_or all i x
    → any_of (map group_has (drop i all)) ≡ (group_has x || any_of (map group_has (drop (i + 1) all)))
groups_turn all i x h here = ap (λ xs. any_of (map group_has xs)) (next_is all i x h here)

pub statements_turn : (all : List Statement) (i : ℕ) (x : Statement) → i < length all → x ≡ get_or all i x
    → any_of (map statement_has (drop i all)) ≡ (statement_has x || any_of (map statement_has (drop (i + 1) all)))
statements_turn all i x h here = ap (λ xs. any_of (map statement_has xs)) (next_is all i x h here)

pub externals_turn : (all : List External) (i : ℕ) (x : External) → i < length all → x ≡ get_or all i x
    → any_of (map is_annotated (drop i all)) ≡ (is_annotated x || any_of (map is_annotated (drop (i + 1) all)))
externals_turn all i x h here = ap (λ xs. any_of (map is_annotated xs)) (next_is all i x h here)
