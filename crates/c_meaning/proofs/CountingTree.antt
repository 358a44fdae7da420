-- Every expression and place conserves marks, where every call does.
use Rattle.std.proofs.Common.{◌≡◌, ℕ, List, [], ◌∷◌, ◌++◌, map, subst, sym, rules}
use Rattle.base16.specs.declared.reading.Reading.{Reading}
use Rattle.core_tree.specs.declared.types.Struct.{Struct}
use Rattle.core_tree.specs.declared.types.Ty.{Ty}
use Rattle.core_tree.specs.declared.expressions.Expr.{Expr, Expr-F, roll-Expr}
use Rattle.core_tree.specs.declared.expressions.Place.{Place, Place-F, roll-Place}
use Rattle.core_tree.specs.declared.expressions.ExprKind.{ExprKind, roll-ExprKind, map-ExprKind, ind-ExprKind, the_lemmas}
use Rattle.core_tree.specs.declared.expressions.PlaceKind.{PlaceKind, map-PlaceKind, roll-PlaceKind, ind-PlaceKind}
use Rattle.core_tree.specs.declared.expressions.ExprKind.TheOpen.{ExprKind-F, PlaceKind-F}
use Rattle.c_values.specs.declared.value.Value.{Value}
use Rattle.c_values.specs.declared.value.Location.{Location}
use Rattle.c_run.specs.Runs.{Action, ◌>>=◌, pure}
use Rattle.c_run.proofs.Counting.{Counting, counting_then, counting_seq, counting_pure, counting_mark, counting_if, counting_given, counting_asked, counting_load, counting_store, counting_sense, counting_emit}
use Rattle.c_meaning.specs.Meaning.{Calls, Meant, expr_layer, place_layer, expr_kind, place_kind, expr, place, meant, each_from, tested, int_of}

counting_each : {E : Type 0} (e0 : E → Expr) (f : Expr → Meant Value) → ((e : E) → Counting (f (e0 e)).act) → (found : List Value) (es : List E)
    → Counting (each_from found (map f (map e0 es)))
counting_each e0 f h found [] = counting_pure found
counting_each e0 f h found (e ∷ es) = counting_then _ _ (h e) (λ v. counting_each e0 f h (found ++ v ∷ []) es)

module _ (S : List Struct) (R : List Reading) (C : Calls) (F : ℕ) (cc_ : (f : ℕ) (vs : List Value) → Counting (C f vs)) where
  abbrev act_place : Place → Meant Location
  act_place p = record { ty = p.ty; act = place S R C F p }

  module _ {K P E Q : Type 0} (k0 : K → ExprKind) (p0 : P → PlaceKind) (e0 : E → Expr) (q0 : Q → Place)
      (ec : (e : E) → Counting (expr S R C F (e0 e))) (qc : (q : Q) → Counting (place S R C F (q0 q))) where
    second : (l r : E) (n : ℕ) → Counting (expr S R C F (e0 r) >>= λ b. tested n (e0 r).ty b >>= λ y. pure (int_of y))
    second l r n = counting_then _ _ (ec r) (λ b. counting_then _ _ (counting_asked n _) (λ y. counting_pure _))

    layer_ok : (y : ExprKind-F K P E Q) (ty : Ty) (n : ℕ)
        → Counting (expr_layer S R C F (map-ExprKind ExprKind PlaceKind Expr Place (Ty → ℕ → Action Value) (Ty → ℕ → Action Location) (Meant Value) (Meant Location) (expr_kind S R C F) (place_kind S R C F) (meant S R C F) act_place (map-ExprKind K P E Q ExprKind PlaceKind Expr Place k0 p0 e0 q0 y)) ty n)
    layer_ok (ExprKind-F.Read q) ty n = counting_then _ _ (qc q) (λ l. counting_load n l _)
    layer_ok (ExprKind-F.Binary o t l r) ty n = counting_then _ _ (ec l) (λ a. counting_then _ _ (ec r) (λ b. counting_given n _))
    layer_ok (ExprKind-F.Assign q v marked) ty n = counting_then _ _ (qc q) (λ l. counting_then _ _ (ec v) (λ a. counting_store n l _ a marked))
    layer_ok (ExprKind-F.Constant v) ty n = counting_pure _
    layer_ok (ExprKind-F.Convert e) ty n = counting_then _ _ (ec e) (λ v. counting_given n _)
    layer_ok (ExprKind-F.Unary o e) ty n = counting_then _ _ (ec e) (λ v. counting_asked n _)
    layer_ok (ExprKind-F.PointerPlus minus l r) ty n = counting_then _ _ (ec l) (λ a. counting_then _ _ (ec r) (λ b. counting_asked n _))
    layer_ok (ExprKind-F.Difference l r) ty n = counting_then _ _ (ec l) (λ a. counting_then _ _ (ec r) (λ b. counting_asked n _))
    layer_ok (ExprKind-F.ComparePointers o l r) ty n = counting_then _ _ (ec l) (λ a. counting_then _ _ (ec r) (λ b. counting_asked n _))
    layer_ok (ExprKind-F.And l r) ty n = counting_then _ _ (ec l) (λ a. counting_then _ _ (counting_asked n _) (λ x. counting_if x _ _ (second l r n) (counting_pure _)))
    layer_ok (ExprKind-F.Or l r) ty n = counting_then _ _ (ec l) (λ a. counting_then _ _ (counting_asked n _) (λ x. counting_if x _ _ (counting_pure _) (second l r n)))
    layer_ok (ExprKind-F.Conditional t one other) ty n = counting_then _ _ (ec t) (λ a. counting_then _ _ (counting_asked n _) (λ x. counting_if x _ _ (ec one) (ec other)))
    layer_ok (ExprKind-F.Update o t q v old marked) ty n =
        counting_then _ _ (qc q) (λ l. counting_then _ _ (counting_load n l _) (λ before. counting_then _ _ (ec v) (λ a. counting_then _ _ (counting_asked n _) (λ b.
        counting_then _ _ (counting_store n l _ b marked) (λ stored. counting_pure _)))))
    layer_ok (ExprKind-F.Address q) ty n = counting_then _ _ (qc q) (λ l. counting_asked n _)
    layer_ok (ExprKind-F.Call f args) ty n = counting_then _ _ (counting_each e0 (meant S R C F) ec [] args) (λ vs. counting_seq _ _ (counting_given n _) (cc_ f vs))
    layer_ok (ExprKind-F.Sense channel) ty n = counting_sense R channel
    layer_ok (ExprKind-F.Emit e) ty n = counting_then _ _ (ec e) (λ v. counting_emit n v)
    layer_ok ExprKind-F.Checkpoint ty n = counting_seq _ _ counting_mark (counting_pure _)
    layer_ok (ExprKind-F.Comma l r) ty n = counting_seq _ _ (ec l) (ec r)

    place_ok : (y : PlaceKind-F K P E Q) (ty : Ty) (n : ℕ)
        → Counting (place_layer S R C F (map-PlaceKind ExprKind PlaceKind Expr Place (Ty → ℕ → Action Value) (Ty → ℕ → Action Location) (Meant Value) (Meant Location) (expr_kind S R C F) (place_kind S R C F) (meant S R C F) act_place (map-PlaceKind K P E Q ExprKind PlaceKind Expr Place k0 p0 e0 q0 y)) ty n)
    place_ok (PlaceKind-F.Local i) ty n = counting_pure _
    place_ok (PlaceKind-F.Global i) ty n = counting_pure _
    place_ok (PlaceKind-F.Deref e) ty n = counting_then _ _ (ec e) (λ v. counting_given n _)
    place_ok (PlaceKind-F.Member q tag member) ty n = counting_then _ _ (qc q) (λ l. counting_pure _)
    place_ok (PlaceKind-F.Element q e) ty n = counting_then _ _ (qc q) (λ l. counting_then _ _ (ec e) (λ i. counting_asked n _))
    place_ok (PlaceKind-F.At l r) ty n = counting_then _ _ (ec l) (λ a. counting_then _ _ (ec r) (λ b. counting_asked n _))

  unrolled : (z : ExprKind-F ExprKind PlaceKind Expr Place) → expr_kind S R C F (roll-ExprKind z)
      ≡ expr_layer S R C F (map-ExprKind ExprKind PlaceKind Expr Place (Ty → ℕ → Action Value) (Ty → ℕ → Action Location) (Meant Value) (Meant Location) (expr_kind S R C F) (place_kind S R C F) (meant S R C F) act_place z)
  unrolled z = search (rules, the_lemmas)

  unrolled_place : (z : PlaceKind-F ExprKind PlaceKind Expr Place) → place_kind S R C F (roll-PlaceKind z)
      ≡ place_layer S R C F (map-PlaceKind ExprKind PlaceKind Expr Place (Ty → ℕ → Action Value) (Ty → ℕ → Action Location) (Meant Value) (Meant Location) (expr_kind S R C F) (place_kind S R C F) (meant S R C F) act_place z)
  unrolled_place z = search (rules, the_lemmas)

  abbrev CK : ExprKind → Type 0
  CK k = (ty : Ty) (n : ℕ) → Counting (expr_kind S R C F k ty n)

  abbrev CP : PlaceKind → Type 0
  CP k = (ty : Ty) (n : ℕ) → Counting (place_kind S R C F k ty n)

  pub counting_kind : (k : ExprKind) (ty : Ty) (n : ℕ) → Counting (expr_kind S R C F k ty n)
  counting_kind = ind-ExprKind CK CP (λ e. Counting (expr S R C F e)) (λ p. Counting (place S R C F p))
      (λ x y is. subst (λ (z : ExprKind-F ExprKind PlaceKind Expr Place). CK (roll-ExprKind z)) is
      (λ ty n. subst (λ (a : Ty → ℕ → Action Value). Counting (a ty n)) (sym (unrolled _)) (layer_ok (λ k. k.0) (λ p. p.0) (λ e. e.0) (λ q. q.0) (λ e. e.1) (λ q. q.1) y ty n)))
      (λ x y is. subst (λ (z : PlaceKind-F ExprKind PlaceKind Expr Place). CP (roll-PlaceKind z)) is
      (λ ty n. subst (λ (a : Ty → ℕ → Action Location). Counting (a ty n)) (sym (unrolled_place _)) (place_ok (λ k. k.0) (λ p. p.0) (λ e. e.0) (λ q. q.0) (λ e. e.1) (λ q. q.1) y ty n)))
      (λ x y is. subst (λ (z : Expr-F ExprKind PlaceKind Expr Place). Counting (expr S R C F (roll-Expr z))) is (y.kind.1 y.ty y.node))
      (λ x y is. subst (λ (z : Place-F ExprKind PlaceKind Expr Place). Counting (place S R C F (roll-Place z))) is (y.kind.1 y.ty y.node))

  pub counting_places : (k : PlaceKind) (ty : Ty) (n : ℕ) → Counting (place_kind S R C F k ty n)
  counting_places = ind-PlaceKind CK CP (λ e. Counting (expr S R C F e)) (λ p. Counting (place S R C F p))
      (λ x y is. subst (λ (z : ExprKind-F ExprKind PlaceKind Expr Place). CK (roll-ExprKind z)) is
      (λ ty n. subst (λ (a : Ty → ℕ → Action Value). Counting (a ty n)) (sym (unrolled _)) (layer_ok (λ k. k.0) (λ p. p.0) (λ e. e.0) (λ q. q.0) (λ e. e.1) (λ q. q.1) y ty n)))
      (λ x y is. subst (λ (z : PlaceKind-F ExprKind PlaceKind Expr Place). CP (roll-PlaceKind z)) is
      (λ ty n. subst (λ (a : Ty → ℕ → Action Location). Counting (a ty n)) (sym (unrolled_place _)) (place_ok (λ k. k.0) (λ p. p.0) (λ e. e.0) (λ q. q.0) (λ e. e.1) (λ q. q.1) y ty n)))
      (λ x y is. subst (λ (z : Expr-F ExprKind PlaceKind Expr Place). Counting (expr S R C F (roll-Expr z))) is (y.kind.1 y.ty y.node))
      (λ x y is. subst (λ (z : Place-F ExprKind PlaceKind Expr Place). Counting (place S R C F (roll-Place z))) is (y.kind.1 y.ty y.node))

  pub counting_expr : (e : Expr) → Counting (expr S R C F e)
  counting_expr e = counting_kind e.kind e.ty e.node

  pub counting_place : (p : Place) → Counting (place S R C F p)
  counting_place p = counting_places p.kind p.ty p.node
