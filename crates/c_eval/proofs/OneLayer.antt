-- What a call does from a run, and its arguments one by one.
use Rattle.std.proofs.Common.{◌≡◌, ℕ, ◌+◌, ◌<◌, List, [], ◌∷◌, ◌++◌, length, get_or, drop, map, ap, sym, ◌∙◌, add-one, drop-cons}
use Rattle.base16.specs.declared.reading.Reading.{Reading}
use Rattle.core_tree.specs.declared.types.Struct.{Struct}
use Rattle.core_tree.specs.declared.expressions.Expr.{Expr}
use Rattle.core_tree.specs.declared.expressions.ExprKind.{ExprKind}
use Rattle.core_tree.specs.declared.expressions.ExprKind.TheVariants as e
use Rattle.c_values.specs.declared.value.Value.{Value}
use Rattle.c_run.specs.Runs.{Run, Action, and_then}
use Rattle.c_meaning.specs.Meaning.{Calls, expr, expr_kind, each, each_from, meant, passed}
use Rattle.c_meaning.proofs.ExprEquations.{expr-Call}

pub call_is : (S : List Struct) (R : List Reading) (C : Calls) (F : ℕ) (x : Expr) (f : ℕ) (args : List Expr) (r : Run) → x.kind ≡ e.Call f args
    → expr S R C F x r ≡ and_then (each S R C F args r) (λ vs. passed C x.node f vs)
call_is S R C F x f args r is =
    ap (λ (kind : ExprKind). expr_kind S R C F kind x.ty x.node r) is ∙ ap (λ (act : Action Value). act r) (expr-Call S R C F f args x.ty x.node)

pub args_turn : (S : List Struct) (R : List Reading) (C : Calls) (F : ℕ) (found : List Value) (all : List Expr) (i : ℕ) (x : Expr) (r : Run)
    → i < length all → x ≡ get_or all i x
    → each_from found (map (meant S R C F) (drop i all)) r
    ≡ and_then (expr S R C F x r) (λ v. each_from (found ++ v ∷ []) (map (meant S R C F) (drop (i + 1) all)))
args_turn S R C F found all i x r h is =
    let cut : drop i all ≡ get_or all i x ∷ drop (i + 1) all = rw (add-one) (drop-cons all i x h) in
    ap (λ es. each_from found (map (meant S R C F) es) r) cut
    ∙ ap (λ (y : Expr). and_then (expr S R C F y r) (λ v. each_from (found ++ v ∷ []) (map (meant S R C F) (drop (i + 1) all)))) (sym is)
