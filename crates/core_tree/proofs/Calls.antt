-- What a call measures.
use Rattle.std.proofs.Common.{◌≡◌, ℕ, ◌+◌, ◌*◌, List, map, length, rules}
use Rattle.core_tree.specs.declared.expressions.Expr.{Expr}
use Rattle.core_tree.specs.declared.expressions.ExprKind.{the_lemmas}
use Rattle.core_tree.specs.declared.expressions.ExprKind.TheVariants as k
use Rattle.core_tree.specs.Costs.{each, expr_kind_rows, expr_rows}
use Rattle.core_tree.specs.Nodes.{expr_kind_nodes, expr_nodes, total}

pub rows-Call : (f : ℕ) (args : List Expr) (node : ℕ)
    → expr_kind_rows each (k.Call f args) node ≡ 1 * (24 + 12 * length (map (expr_rows each) args)) + total (map (expr_rows each) args)
rows-Call f args node = search (rules, the_lemmas)

pub nodes-Call : (f : ℕ) (args : List Expr) → expr_kind_nodes (k.Call f args) ≡ 1 + total (map expr_nodes args)
nodes-Call f args = search (rules, the_lemmas)
