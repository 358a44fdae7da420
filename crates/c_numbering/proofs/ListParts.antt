-- Nodes that have lists of nodes in them.
use Rattle.std.proofs.Common.{◌≡◌, ℕ, ◌+◌, List, map, ap, ◌∙◌, rules}
use Rattle.core_tree.specs.declared.expressions.Expr.{Expr}
use Rattle.core_tree.specs.declared.expressions.Place.{Place}
use Rattle.core_tree.specs.declared.expressions.ExprKind.{ExprKind, fold-ExprKind, the_lemmas}
use Rattle.core_tree.specs.declared.expressions.PlaceKind.{PlaceKind}
use Rattle.core_tree.specs.declared.expressions.ExprKind.TheVariants as k
use Rattle.core_tree.specs.declared.expressions.ExprKind.TheOpen.{ExprKind-F, PlaceKind-F}
use Rattle.core_tree.specs.declared.types.Ty.{Ty}
use Rattle.c_checking.specs.Numbering.{Numbered, node, each, expr_step, place_step, expr_numbered}

abbrev pub ExprLayer : Type 0
ExprLayer = ExprKind-F (Numbered ExprKind) (Numbered PlaceKind) (Numbered Expr) (Numbered Place)

abbrev pub PlaceLayer : Type 0
PlaceLayer = PlaceKind-F (Numbered ExprKind) (Numbered PlaceKind) (Numbered Expr) (Numbered Place)

abbrev numbered_node : Numbered ExprKind → Ty → ℕ → Numbered Expr
numbered_node kind ty line = node (λ n kind. record { kind = kind; ty = ty; node = n; line = line }) kind

-- for any steps, which do not compute
module _ (step : ExprLayer → Numbered ExprKind) (at : PlaceLayer → Numbered PlaceKind) where
  abbrev kind_by : ExprKind → Numbered ExprKind
  kind_by = fold-ExprKind (Numbered ExprKind) (Numbered PlaceKind) (Numbered Expr) (Numbered Place) step at
      (λ x. node (λ n kind. record { kind = kind; ty = x.ty; node = n; line = x.line }) x.kind)
      (λ x. node (λ n kind. record { kind = kind; ty = x.ty; node = n; line = x.line }) x.kind)

  abbrev expr_by : Expr → Numbered Expr
  expr_by e = numbered_node (kind_by e.kind) e.ty e.line

  fold-Call : (function : ℕ) (args : List Expr) → kind_by (k.Call function args) ≡ step (ExprKind-F.Call function (map expr_by args))
  fold-Call function args = search (rules, the_lemmas)

call_is : (e : Expr) (function : ℕ) (args : List Expr) (n : ℕ) → e.kind ≡ k.Call function args
    → expr_numbered e n
    ≡ (
      record { kind = k.Call function (each (map expr_numbered args) (n + 1)).0; ty = e.ty; node = n; line = e.line },
      (each (map expr_numbered args) (n + 1)).1,
    )
call_is e function args n is =
    ap (λ (kind : ExprKind). numbered_node (kind_by expr_step place_step kind) e.ty e.line n) is
    ∙ ap (λ (kind : Numbered ExprKind). numbered_node kind e.ty e.line n) (fold-Call expr_step place_step function args)

pub call_made : (e : Expr) (function : ℕ) (args : List Expr) (n : ℕ) → e.kind ≡ k.Call function args
    → (expr_numbered e n).0
    ≡ record { kind = k.Call function (each (map expr_numbered args) (n + 1)).0; ty = e.ty; node = n; line = e.line }
call_made e function args n is = ap (λ (p : Expr × ℕ). p.0) (call_is e function args n is)

pub call_next : (e : Expr) (function : ℕ) (args : List Expr) (n : ℕ) → e.kind ≡ k.Call function args
    → (expr_numbered e n).1 ≡ (each (map expr_numbered args) (n + 1)).1
call_next e function args n is = ap (λ (p : Expr × ℕ). p.1) (call_is e function args n is)
