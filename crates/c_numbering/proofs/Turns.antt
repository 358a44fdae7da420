-- Parts that are numbered one after another: the first of them, and those behind it.
use Rattle.std.proofs.Common.{◌≡◌, ℕ, ◌+◌, ◌<◌, ◌≤◌, List, [], ◌∷◌, ◌++◌, length, get_or, drop, take, map, ap, sym, ◌∙◌, add-one, drop-cons}
use Rattle.std.proofs.Math.Seq.{take-suc}
use Rattle.std.proofs.lemmas.List.{get_or-map, get_or_past, length-map}
use Rattle.core_tree.specs.declared.expressions.Expr.{Expr}
use Rattle.core_tree.specs.declared.expressions.Place.{Place}
use Rattle.core_tree.specs.declared.statements.Init.{Init}
use Rattle.core_tree.specs.declared.statements.Stmt.{Stmt}
use Rattle.core_tree.specs.declared.statements.Group.{Group}
use Rattle.core_tree.specs.declared.types.Ty.{Ty}
use Rattle.core_tree.specs.declared.program.Function.{Function}
use Rattle.core_tree.specs.declared.program.Global.{Global}
use Rattle.c_checking.specs.Numbering.{Numbered, each, expr_numbered, place_numbered, init_numbered, stmt_numbered, function_numbered, global_numbered}
use Rattle.c_numbering.specs.Statements.{group_numbered, node_of}

next_is : {A : Type 0} (all : List A) (i : ℕ) (x : A) → i < length all → x ≡ get_or all i x → drop i all ≡ x ∷ drop (i + 1) all
next_is all i x h here = rw (add-one) (drop-cons all i x h) ∙ ap (λ y. y ∷ drop (i + 1) all) (sym here)

each_first : {A B : Type 0} (f : A → Numbered B) (all : List A) (i : ℕ) (x : A) (n : ℕ) → i < length all → x ≡ get_or all i x
    → (each (map f (drop i all)) n).0 ≡ (f x n).0 ∷ (each (map f (drop (i + 1) all)) (f x n).1).0
each_first f all i x n h here = ap (λ xs. (each (map f xs) n).0) (next_is all i x h here)

each_behind : {A B : Type 0} (f : A → Numbered B) (all : List A) (i : ℕ) (x : A) (n : ℕ) → i < length all → x ≡ get_or all i x
    → (each (map f (drop i all)) n).1 ≡ (each (map f (drop (i + 1) all)) (f x n).1).1
each_behind f all i x n h here = ap (λ xs. (each (map f xs) n).1) (next_is all i x h here)

pub exprs_first : (all : List Expr) (i : ℕ) (x : Expr) (n : ℕ) → i < length all → x ≡ get_or all i x
    → (each (map expr_numbered (drop i all)) n).0
    ≡ (expr_numbered x n).0 ∷ (each (map expr_numbered (drop (i + 1) all)) (expr_numbered x n).1).0
exprs_first all i x n h here = each_first expr_numbered all i x n h here

pub exprs_behind : (all : List Expr) (i : ℕ) (x : Expr) (n : ℕ) → i < length all → x ≡ get_or all i x
    → (each (map expr_numbered (drop i all)) n).1 ≡ (each (map expr_numbered (drop (i + 1) all)) (expr_numbered x n).1).1
exprs_behind all i x n h here = each_behind expr_numbered all i x n h here

pub inits_first : (all : List Init) (i : ℕ) (x : Init) (n : ℕ) → i < length all → x ≡ get_or all i x
    → (each (map init_numbered (drop i all)) n).0
    ≡ (init_numbered x n).0 ∷ (each (map init_numbered (drop (i + 1) all)) (init_numbered x n).1).0
inits_first all i x n h here = each_first init_numbered all i x n h here

pub inits_behind : (all : List Init) (i : ℕ) (x : Init) (n : ℕ) → i < length all → x ≡ get_or all i x
    → (each (map init_numbered (drop i all)) n).1 ≡ (each (map init_numbered (drop (i + 1) all)) (init_numbered x n).1).1
inits_behind all i x n h here = each_behind init_numbered all i x n h here

pub places_first : (all : List Place) (i : ℕ) (x : Place) (n : ℕ) → i < length all → x ≡ get_or all i x
    → (each (map place_numbered (drop i all)) n).0
    ≡ (place_numbered x n).0 ∷ (each (map place_numbered (drop (i + 1) all)) (place_numbered x n).1).0
places_first all i x n h here = each_first place_numbered all i x n h here

pub places_behind : (all : List Place) (i : ℕ) (x : Place) (n : ℕ) → i < length all → x ≡ get_or all i x
    → (each (map place_numbered (drop i all)) n).1 ≡ (each (map place_numbered (drop (i + 1) all)) (place_numbered x n).1).1
places_behind all i x n h here = each_behind place_numbered all i x n h here

pub stmts_first : (all : List Stmt) (i : ℕ) (x : Stmt) (n : ℕ) → i < length all → x ≡ get_or all i x
    → (each (map stmt_numbered (drop i all)) n).0
    ≡ (stmt_numbered x n).0 ∷ (each (map stmt_numbered (drop (i + 1) all)) (stmt_numbered x n).1).0
stmts_first all i x n h here = each_first stmt_numbered all i x n h here

pub stmts_behind : (all : List Stmt) (i : ℕ) (x : Stmt) (n : ℕ) → i < length all → x ≡ get_or all i x
    → (each (map stmt_numbered (drop i all)) n).1 ≡ (each (map stmt_numbered (drop (i + 1) all)) (stmt_numbered x n).1).1
stmts_behind all i x n h here = each_behind stmt_numbered all i x n h here

pub groups_first : (all : List Group) (i : ℕ) (x : Group) (n : ℕ) → i < length all → x ≡ get_or all i x
    → (each (map group_numbered (drop i all)) n).0
    ≡ (group_numbered x n).0 ∷ (each (map group_numbered (drop (i + 1) all)) (group_numbered x n).1).0
groups_first all i x n h here = each_first group_numbered all i x n h here

pub groups_behind : (all : List Group) (i : ℕ) (x : Group) (n : ℕ) → i < length all → x ≡ get_or all i x
    → (each (map group_numbered (drop i all)) n).1 ≡ (each (map group_numbered (drop (i + 1) all)) (group_numbered x n).1).1
groups_behind all i x n h here = each_behind group_numbered all i x n h here

pub functions_first : (all : List Function) (i : ℕ) (x : Function) (n : ℕ) → i < length all → x ≡ get_or all i x
    → (each (map function_numbered (drop i all)) n).0
    ≡ (function_numbered x n).0 ∷ (each (map function_numbered (drop (i + 1) all)) (function_numbered x n).1).0
functions_first all i x n h here = each_first function_numbered all i x n h here

pub functions_behind : (all : List Function) (i : ℕ) (x : Function) (n : ℕ) → i < length all → x ≡ get_or all i x
    → (each (map function_numbered (drop i all)) n).1 ≡ (each (map function_numbered (drop (i + 1) all)) (function_numbered x n).1).1
functions_behind all i x n h here = each_behind function_numbered all i x n h here

pub take_turn : (all : List Ty) (i : ℕ) (x : Ty) → i < length all → x ≡ get_or all i x → take (i + 1) all ≡ take i all ++ x ∷ []
take_turn all i x h here = rw (add-one) (take-suc all i x h) ∙ ap (λ y. take i all ++ y ∷ []) (sym here)

pub globals_turn : (p : List Function × ℕ) (all : List Global) (i : ℕ) (x : Global) → i < length all → x ≡ get_or all i x
    → map (global_numbered p) (drop i all) ≡ global_numbered p x ∷ map (global_numbered p) (drop (i + 1) all)
globals_turn p all i x h here = ap (λ xs. map (global_numbered p) xs) (next_is all i x h here)

-- the function at a place, or none
pub node_there : (fs : List Function) (i total : ℕ) (f : Function) → i < length fs → f ≡ get_or fs i f
    → get_or (map node_of fs) i total ≡ f.node
node_there fs i total f h here = get_or-map node_of fs i f total h ∙ ap node_of (sym here)

pub node_past : (fs : List Function) (i total : ℕ) → length fs ≤ i → get_or (map node_of fs) i total ≡ total
node_past fs i total h =
    let h' : length (map node_of fs) ≤ i = simp length-map h in get_or_past (map node_of fs) i total h'
