-- The nodes of parts side by side, and of an expression or a statement with a list of parts.
use Rattle.std.proofs.Common.{◌≡◌, ℕ, ◌+◌, ◌<◌, List, ◌∷◌, ◌++◌, length, get_or, drop, map, ap, sym, ◌∙◌, add-one, drop-cons, rules}
use Rattle.core_tree.specs.declared.expressions.Expr.{Expr}
use Rattle.core_tree.specs.declared.expressions.ExprKind.{the_lemmas as expr_lemmas}
use Rattle.core_tree.specs.declared.expressions.ExprKind.TheVariants as e
use Rattle.core_tree.specs.declared.expressions.Place.{Place}
use Rattle.core_tree.specs.declared.statements.Stmt.{Stmt}
use Rattle.core_tree.specs.declared.statements.StmtKind.{the_lemmas as stmt_lemmas}
use Rattle.core_tree.specs.declared.statements.StmtKind.TheVariants as s
use Rattle.core_tree.specs.declared.statements.Group.{Group, out-Group}
use Rattle.core_tree.specs.declared.statements.Init.{Init}
use Rattle.core_tree.specs.declared.program.Function.{Function}
use Rattle.report_state.specs.NodeLines.{Nodes, joined, below_expr, below_kind, expr_nodes, place_nodes, init_nodes, stmt_nodes, group_nodes, function_nodes}

turned : {A : Type 0} (nodes : A → Nodes) (xs : List A) (i : ℕ) (x : A) → i < length xs → x ≡ get_or xs i x
    → joined (map nodes (drop i xs)) ≡ nodes x ++ joined (map nodes (drop (i + 1) xs))
turned nodes xs i x h is =
    let cut : drop i xs ≡ get_or xs i x ∷ drop (i + 1) xs = rw (add-one) (drop-cons xs i x h) in
    ap (λ ys. joined (map nodes ys)) cut ∙ ap (λ y. nodes y ++ joined (map nodes (drop (i + 1) xs))) (sym is)

pub exprs_turn : (xs : List Expr) (i : ℕ) (x : Expr) → i < length xs → x ≡ get_or xs i x
    → joined (map expr_nodes (drop i xs)) ≡ expr_nodes x ++ joined (map expr_nodes (drop (i + 1) xs))
exprs_turn xs i x h is = turned expr_nodes xs i x h is

pub places_turn : (xs : List Place) (i : ℕ) (x : Place) → i < length xs → x ≡ get_or xs i x
    → joined (map place_nodes (drop i xs)) ≡ place_nodes x ++ joined (map place_nodes (drop (i + 1) xs))
places_turn xs i x h is = turned place_nodes xs i x h is

pub inits_turn : (xs : List Init) (i : ℕ) (x : Init) → i < length xs → x ≡ get_or xs i x
    → joined (map init_nodes (drop i xs)) ≡ init_nodes x ++ joined (map init_nodes (drop (i + 1) xs))
inits_turn xs i x h is = turned init_nodes xs i x h is

pub stmts_turn : (xs : List Stmt) (i : ℕ) (x : Stmt) → i < length xs → x ≡ get_or xs i x
    → joined (map stmt_nodes (drop i xs)) ≡ stmt_nodes x ++ joined (map stmt_nodes (drop (i + 1) xs))
stmts_turn xs i x h is = turned stmt_nodes xs i x h is

pub groups_turn : (xs : List Group) (i : ℕ) (x : Group) → i < length xs → x ≡ get_or xs i x
    → joined (map group_nodes (drop i xs)) ≡ group_nodes x ++ joined (map group_nodes (drop (i + 1) xs))
groups_turn xs i x h is = turned group_nodes xs i x h is

pub functions_turn : (xs : List Function) (i : ℕ) (x : Function) → i < length xs → x ≡ get_or xs i x
    → joined (map function_nodes (drop i xs)) ≡ function_nodes x ++ joined (map function_nodes (drop (i + 1) xs))
functions_turn xs i x h is = turned function_nodes xs i x h is

-- ---- lists of parts

pub below-Call : (f : ℕ) (args : List Expr) → below_expr (e.Call f args) ≡ joined (map expr_nodes args)
below-Call f args = search (rules, expr_lemmas)

pub below-Block : (all : List Stmt) → below_kind (s.Block all) ≡ joined (map stmt_nodes all)
below-Block all = search (rules, stmt_lemmas)

pub below-Declare : (n : ℕ) (init : List Init) → below_kind (s.Declare n init) ≡ joined (map init_nodes init)
below-Declare n init = search (rules, stmt_lemmas)

pub below-Group : (g : Group) → group_nodes g ≡ joined (map stmt_nodes (out-Group g).body)
below-Group g = search (rules, stmt_lemmas)

pub below-Expires : (names : List Place) (body caught : List Stmt)
    → below_kind (s.Expires names body caught) ≡ joined (map place_nodes names) ++ joined (map stmt_nodes body) ++ joined (map stmt_nodes caught)
below-Expires names body caught = search (rules, stmt_lemmas)
