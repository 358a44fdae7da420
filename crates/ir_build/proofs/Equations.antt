-- The code of a call, from the codes of its arguments.
use Rattle.std.proofs.Common.{◌≡◌, ℕ, List, [], ◌∷◌, ◌++◌, Bool, true, Option, map, length, ap, ◌∙◌, rules}
use Rattle.std.proofs.lemmas.List.{length-map}
use Rattle.core_tree.specs.declared.types.Struct.{Struct}
use Rattle.core_tree.specs.declared.expressions.Expr.{Expr}
use Rattle.core_tree.specs.declared.expressions.Place.{Place}
use Rattle.core_tree.specs.declared.expressions.ExprKind.{ExprKind, fold-ExprKind, the_lemmas}
use Rattle.core_tree.specs.declared.expressions.PlaceKind.{PlaceKind, fold-PlaceKind}
use Rattle.core_tree.specs.declared.expressions.ExprKind.TheVariants as k
use Rattle.base16.specs.declared.integer.IntType.{IntType}
use Rattle.base16.specs.declared.operator.BinaryOp.{BinaryOp}
use Rattle.core_tree.specs.Layout.{kind_of, int_type_of, stride, target_of}
use Rattle.core_tree.specs.declared.expressions.ExprKind.TheOpen.{ExprKind-F, PlaceKind-F}
use Rattle.ir.specs.declared.form.StepKind.TheVariants as step
use Rattle.ir_gen.specs.Code as c
use Rattle.ir_gen.specs.Code.{Code, Coded, Spotted}
use Rattle.ir_build.specs.Emitting.{coded}

-- for any layers, which do not compute
module _ (layer : ExprKind-F c.Layer c.PlaceLayer Coded Spotted → c.Layer)
    (at : PlaceKind-F c.Layer c.PlaceLayer Coded Spotted → c.PlaceLayer) where
  abbrev kind_by : ExprKind → c.Layer
  kind_by = fold-ExprKind c.Layer c.PlaceLayer Coded Spotted layer at
      (λ e. record { ty = e.ty; code = e.kind e.ty e.node }) (λ p. record { ty = p.ty; spot = p.kind p.ty p.node })

  abbrev coded_by : Expr → Coded
  coded_by e = record { ty = e.ty; code = kind_by e.kind e.ty e.node }

  abbrev place_by : PlaceKind → c.PlaceLayer
  place_by = fold-PlaceKind c.Layer c.PlaceLayer Coded Spotted layer at
      (λ e. record { ty = e.ty; code = e.kind e.ty e.node }) (λ p. record { ty = p.ty; spot = p.kind p.ty p.node })

  fold-Update : (o : BinaryOp) (t : Option IntType) (p : Place) (v : Expr) (old marked : Bool)
      → kind_by (k.Update o t p v old marked)
      ≡ layer (ExprKind-F.Update o t (record { ty = p.ty; spot = place_by p.kind p.ty p.node }) (coded_by v) old marked)
  fold-Update o t p v old marked = search (rules, the_lemmas)

  fold-Call : (function : ℕ) (args : List Expr) → kind_by (k.Call function args)
      ≡ layer (ExprKind-F.Call function (map coded_by args))
  fold-Call function args = search (rules, the_lemmas)

pub call_is : (S : List Struct) (e : Expr) (function : ℕ) (args : List Expr) → e.kind ≡ k.Call function args
    → c.expr S e ≡ c.call_code e.node function (length args) (c.args_code (map (coded S) args))
call_is S e function args is =
    ap (λ (kind : ExprKind). c.expr_kind S kind e.ty e.node) is
    ∙ (ap (λ (l : c.Layer). l e.ty e.node) (fold-Call (c.expr_layer S) (c.place_layer S) function args)
    ∙ ap (λ (n : ℕ). c.call_code e.node function n (c.args_code (map (coded S) args))) (length-map args (coded S)))

pub call_steps : (S : List Struct) (e : Expr) (function : ℕ) (args : List Expr) (p d : ℕ) → e.kind ≡ k.Call function args
    → (c.expr S e).steps p d
    ≡ (c.args_code (map (coded S) args)).steps p d
    ++ (c.at_node e.node (step.Call d function (length args)) ∷ c.at_node e.node (step.Result d true) ∷ [])
call_steps S e function args p d is = ap (λ (z : Code). z.steps p d) (call_is S e function args is)

pub update_is : (S : List Struct) (e : Expr) (o : BinaryOp) (t : Option IntType) (p : Place) (v : Expr) (old marked : Bool)
    → e.kind ≡ k.Update o t p v old marked
    → c.expr S e
    ≡ c.update_code e.node (c.place S p) (kind_of e.ty)
    (c.update_operation o t (int_type_of v.ty) (stride S (target_of e.ty))) (c.expr S v) old marked
update_is S e o t p v old marked is =
    ap (λ (kind : ExprKind). c.expr_kind S kind e.ty e.node) is
    ∙ ap (λ (l : c.Layer). l e.ty e.node) (fold-Update (c.expr_layer S) (c.place_layer S) o t p v old marked)
