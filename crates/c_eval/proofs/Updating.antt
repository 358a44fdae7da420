-- What an update does, from what its place, the value there and the value by which it is updated are.
use Rattle.std.proofs.Common.{◌≡◌, ℕ, Bool, List, Option, ap, sym, subst, ◌∙◌}
use Rattle.std.specs.Prelude.{Result}
use Rattle.base16.specs.declared.integer.IntType.{IntType}
use Rattle.base16.specs.declared.operator.BinaryOp.{BinaryOp}
use Rattle.base16.specs.declared.image.Kind.{Kind}
use Rattle.base16.specs.declared.reading.Reading.{Reading}
use Rattle.core_tree.specs.declared.types.Struct.{Struct}
use Rattle.core_tree.specs.declared.expressions.Expr.{Expr}
use Rattle.core_tree.specs.declared.expressions.Place.{Place}
use Rattle.core_tree.specs.declared.expressions.ExprKind.{ExprKind}
use Rattle.core_tree.specs.declared.expressions.ExprKind.TheVariants as e
use Rattle.core_tree.specs.Layout.{kind_of}
use Rattle.c_values.specs.declared.value.Value.{Value}
use Rattle.c_values.specs.declared.value.Location.{Location}
use Rattle.c_run.specs.declared.halt.Halt.{Halt}
use Rattle.c_run.specs.Runs.{Run, Action, Outcome, Went, and_then}
use Rattle.c_run.specs.Actions.{load}
use Rattle.c_run.specs.Gives.{Gives}
use Rattle.c_meaning.specs.Meaning.{Calls, expr, expr_kind, place}
use Rattle.c_meaning.proofs.ExprEquations.{expr-Update}
use Rattle.c_eval.specs.Updates.{rewritten}

-- an outcome whose value is known, and what follows it
went_gives : {A B : Type 0} (o : Outcome A) (a : A) (r : Run) (f : A → Action B) (result : Result B Halt) (new : Run)
    → o ≡ Went a r → Gives (f a r) result new → Gives (and_then o f) result new
went_gives o a r f result new is g = subst (λ (z : Outcome _). Gives (and_then z f) result new) (sym is) g

pub update_gives : (S structs : List Struct) (R : List Reading) (C : Calls) (F : ℕ) (x : Expr) (o : BinaryOp) (t : Option IntType)
    (q there : Place) (value own : Expr) (old marked : Bool) (l : Location) (kind : Kind) (before by : Value) (r s u : Run) (result : Result Value Halt) (new : Run)
    → x.kind ≡ e.Update o t q value old marked → there ≡ q → own ≡ value → structs ≡ S
    → place S R C F there r ≡ Went l s → kind ≡ kind_of x.ty → load x.node l kind s ≡ Went before s → expr S R C F own s ≡ Went by u
    → Gives (rewritten structs (record { op = o; at = t; old = old; marked = marked }) x.node x.ty own.ty l before by u) result new
    → Gives (expr S R C F x r) result new
update_gives S structs R C F x o t q there value own old marked l kind before by r s u result new is at_is own_is all is_place kind_is is_load is_value g =
    let folded : expr S R C F x r ≡ and_then (place S R C F q r) (λ l s. and_then (load x.node l (kind_of x.ty) s) (λ before s. and_then (expr S R C F value s)
    (rewritten S (record { op = o; at = t; old = old; marked = marked }) x.node x.ty value.ty l before))) =
    ap (λ (kind : ExprKind). expr_kind S R C F kind x.ty x.node r) is
    ∙ ap (λ (act : Action Value). act r) (expr-Update S R C F o t q value old marked x.ty x.node) in
    let here : place S R C F q r ≡ Went l s = subst (λ (p : Place). place S R C F p r ≡ Went l s) at_is is_place in
    let loaded : load x.node l (kind_of x.ty) s ≡ Went before s = subst (λ (k : Kind). load x.node l k s ≡ Went before s) kind_is is_load in
    let given_by : expr S R C F value s ≡ Went by u = subst (λ (v : Expr). expr S R C F v s ≡ Went by u) own_is is_value in
    let update = λ (structs : List Struct) (v : Expr). rewritten structs (record { op = o; at = t; old = old; marked = marked }) x.node x.ty v.ty l before by u in
    let made : Gives (update S value) result new =
    subst (λ (v : Expr). Gives (update S v) result new) own_is (subst (λ (ss : List Struct). Gives (update ss own) result new) all g) in
    subst (λ (z : Outcome Value). Gives z result new) (sym folded)
    (went_gives (place S R C F q r) l s _ result new here
    (went_gives (load x.node l (kind_of x.ty) s) before s _ result new loaded
    (went_gives (expr S R C F value s) by u _ result new given_by made)))
