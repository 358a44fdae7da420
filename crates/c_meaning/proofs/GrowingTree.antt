-- Every expression and place does the same in the other way, where every call does.
use Rattle.std.proofs.Common.{◌≡◌, ℕ, List, [], ◌∷◌, ◌++◌, map, subst, sym, rules}
use Rattle.base16.specs.declared.reading.Reading.{Reading}
use Rattle.core_tree.specs.declared.types.Struct.{Struct}
use Rattle.core_tree.specs.declared.types.Ty.{Ty}
use Rattle.core_tree.specs.declared.expressions.Expr.{Expr, Expr-F, roll-Expr}
use Rattle.core_tree.specs.declared.expressions.Place.{Place, Place-F, roll-Place}
use Rattle.core_tree.specs.declared.expressions.ExprKind.{ExprKind, roll-ExprKind, map-ExprKind, ind-ExprKind, the_lemmas}
use Rattle.core_tree.specs.declared.expressions.PlaceKind.{PlaceKind, map-PlaceKind, roll-PlaceKind, ind-PlaceKind}
use Rattle.core_tree.specs.declared.expressions.ExprKind.TheOpen.{ExprKind-F, PlaceKind-F}
use Rattle.c_values.specs.declared.value.Value.{Value}
use Rattle.c_values.specs.declared.value.Location.{Location}
use Rattle.c_run.specs.Runs.{Action, ◌>>=◌, pure}
use Rattle.c_run.proofs.Growing.{Way, Goes, Reads, goes_then, goes_seq, goes_pure, goes_mark, goes_if, goes_given, goes_asked, goes_load, goes_store, goes_sense, goes_emit}
use Rattle.c_meaning.specs.Meaning.{Calls, Meant, expr_layer, place_layer, expr_kind, place_kind, expr, place, meant, each_from, tested, int_of}

goes_each : {E : Type 0} {w : Way} {b : ℕ} (e0 : E → Expr) (f g : Expr → Meant Value) → ((e : E) → Goes w b (f (e0 e)).act (g (e0 e)).act) → (found : List Value) (es : List E)
    → Goes w b (each_from found (map f (map e0 es))) (each_from found (map g (map e0 es)))
goes_each e0 f g h found [] = goes_pure found
goes_each e0 f g h found (e ∷ es) = goes_then (h e) (λ v. goes_each e0 f g h (found ++ v ∷ []) es)

either : {A : Type 0} {w : Way} {b : ℕ} {p p1 q q1 : Ty → ℕ → Action A} → p ≡ p1 → q ≡ q1 → (ty : Ty) (n : ℕ) → Goes w b (p1 ty n) (q1 ty n) → Goes w b (p ty n) (q ty n)
either {A} {w} {b} {p1} {q} e f ty n h =
    subst (λ (x : Ty → ℕ → Action A). Goes w b (x ty n) (q ty n)) (sym e) (subst (λ (y : Ty → ℕ → Action A). Goes w b (p1 ty n) (y ty n)) (sym f) h)

module _ (S : List Struct) (R : List Reading) (C : Calls) (F : ℕ) where
  abbrev pub act_place : Place → Meant Location
  act_place p = record { ty = p.ty; act = place S R C F p }

  pub unrolled : (z : ExprKind-F ExprKind PlaceKind Expr Place) → expr_kind S R C F (roll-ExprKind z)
      ≡ expr_layer S R C F (map-ExprKind ExprKind PlaceKind Expr Place (Ty → ℕ → Action Value) (Ty → ℕ → Action Location) (Meant Value) (Meant Location) (expr_kind S R C F) (place_kind S R C F) (meant S R C F) (act_place) z)
  unrolled z = search (rules, the_lemmas)

  pub unrolled_place : (z : PlaceKind-F ExprKind PlaceKind Expr Place) → place_kind S R C F (roll-PlaceKind z)
      ≡ place_layer S R C F (map-PlaceKind ExprKind PlaceKind Expr Place (Ty → ℕ → Action Value) (Ty → ℕ → Action Location) (Meant Value) (Meant Location) (expr_kind S R C F) (place_kind S R C F) (meant S R C F) (act_place) z)
  unrolled_place z = search (rules, the_lemmas)

module _ (S : List Struct) {w : Way} {b : ℕ} {R T : List Reading} (reads : Reads w R T) {C D : Calls} (F : ℕ) (cc_ : (f : ℕ) (vs : List Value) → Goes w b (C f vs) (D f vs)) where
  module _ {K P E Q : Type 0} (k0 : K → ExprKind) (p0 : P → PlaceKind) (e0 : E → Expr) (q0 : Q → Place)
      (ec : (e : E) → Goes w b (expr S R C F (e0 e)) (expr S T D F (e0 e))) (qc : (q : Q) → Goes w b (place S R C F (q0 q)) (place S T D F (q0 q))) where
    second : (l r : E) (n : ℕ) → Goes w b (expr S R C F (e0 r) >>= λ b. tested n (e0 r).ty b >>= λ y. pure (int_of y)) (expr S T D F (e0 r) >>= λ b. tested n (e0 r).ty b >>= λ y. pure (int_of y))
    second l r n = goes_then (ec r) (λ b. goes_then (goes_asked n _) (λ y. goes_pure _))

    layer_ok : (y : ExprKind-F K P E Q) (ty : Ty) (n : ℕ)
        → Goes w b (expr_layer S R C F (map-ExprKind ExprKind PlaceKind Expr Place (Ty → ℕ → Action Value) (Ty → ℕ → Action Location) (Meant Value) (Meant Location) (expr_kind S R C F) (place_kind S R C F) (meant S R C F) (act_place S R C F) (map-ExprKind K P E Q ExprKind PlaceKind Expr Place k0 p0 e0 q0 y)) ty n) (expr_layer S T D F (map-ExprKind ExprKind PlaceKind Expr Place (Ty → ℕ → Action Value) (Ty → ℕ → Action Location) (Meant Value) (Meant Location) (expr_kind S T D F) (place_kind S T D F) (meant S T D F) (act_place S T D F) (map-ExprKind K P E Q ExprKind PlaceKind Expr Place k0 p0 e0 q0 y)) ty n)
    layer_ok (ExprKind-F.Read q) ty n = goes_then (qc q) (λ l. goes_load n l _)
    layer_ok (ExprKind-F.Binary o t l r) ty n = goes_then (ec l) (λ a. goes_then (ec r) (λ b. goes_given n _))
    layer_ok (ExprKind-F.Assign q v marked) ty n = goes_then (qc q) (λ l. goes_then (ec v) (λ a. goes_store n l _ a marked))
    layer_ok (ExprKind-F.Constant v) ty n = goes_pure _
    layer_ok (ExprKind-F.Convert e) ty n = goes_then (ec e) (λ v. goes_given n _)
    layer_ok (ExprKind-F.Unary o e) ty n = goes_then (ec e) (λ v. goes_asked n _)
    layer_ok (ExprKind-F.PointerPlus minus l r) ty n = goes_then (ec l) (λ a. goes_then (ec r) (λ b. goes_asked n _))
    layer_ok (ExprKind-F.Difference l r) ty n = goes_then (ec l) (λ a. goes_then (ec r) (λ b. goes_asked n _))
    layer_ok (ExprKind-F.ComparePointers o l r) ty n = goes_then (ec l) (λ a. goes_then (ec r) (λ b. goes_asked n _))
    layer_ok (ExprKind-F.And l r) ty n = goes_then (ec l) (λ a. goes_then (goes_asked n _) (λ x. goes_if x (second l r n) (goes_pure _)))
    layer_ok (ExprKind-F.Or l r) ty n = goes_then (ec l) (λ a. goes_then (goes_asked n _) (λ x. goes_if x (goes_pure _) (second l r n)))
    layer_ok (ExprKind-F.Conditional t one other) ty n = goes_then (ec t) (λ a. goes_then (goes_asked n _) (λ x. goes_if x (ec one) (ec other)))
    layer_ok (ExprKind-F.Update o t q v old marked) ty n =
        goes_then (qc q) (λ l. goes_then (goes_load n l _) (λ before. goes_then (ec v) (λ a. goes_then (goes_asked n _) (λ b.
        goes_then (goes_store n l _ b marked) (λ stored. goes_pure _)))))
    layer_ok (ExprKind-F.Address q) ty n = goes_then (qc q) (λ l. goes_asked n _)
    layer_ok (ExprKind-F.Call f args) ty n = goes_then (goes_each e0 (meant S R C F) (meant S T D F) ec [] args) (λ vs. goes_seq (goes_given n _) (cc_ f vs))
    layer_ok (ExprKind-F.Sense channel) ty n = goes_sense reads channel
    layer_ok (ExprKind-F.Emit e) ty n = goes_then (ec e) (λ v. goes_emit n v)
    layer_ok ExprKind-F.Checkpoint ty n = goes_seq goes_mark (goes_pure _)
    layer_ok (ExprKind-F.Comma l r) ty n = goes_seq (ec l) (ec r)

    place_ok : (y : PlaceKind-F K P E Q) (ty : Ty) (n : ℕ)
        → Goes w b (place_layer S R C F (map-PlaceKind ExprKind PlaceKind Expr Place (Ty → ℕ → Action Value) (Ty → ℕ → Action Location) (Meant Value) (Meant Location) (expr_kind S R C F) (place_kind S R C F) (meant S R C F) (act_place S R C F) (map-PlaceKind K P E Q ExprKind PlaceKind Expr Place k0 p0 e0 q0 y)) ty n) (place_layer S T D F (map-PlaceKind ExprKind PlaceKind Expr Place (Ty → ℕ → Action Value) (Ty → ℕ → Action Location) (Meant Value) (Meant Location) (expr_kind S T D F) (place_kind S T D F) (meant S T D F) (act_place S T D F) (map-PlaceKind K P E Q ExprKind PlaceKind Expr Place k0 p0 e0 q0 y)) ty n)
    place_ok (PlaceKind-F.Local i) ty n = goes_pure _
    place_ok (PlaceKind-F.Global i) ty n = goes_pure _
    place_ok (PlaceKind-F.Deref e) ty n = goes_then (ec e) (λ v. goes_given n _)
    place_ok (PlaceKind-F.Member q tag member) ty n = goes_then (qc q) (λ l. goes_pure _)
    place_ok (PlaceKind-F.Element q e) ty n = goes_then (qc q) (λ l. goes_then (ec e) (λ i. goes_asked n _))
    place_ok (PlaceKind-F.At l r) ty n = goes_then (ec l) (λ a. goes_then (ec r) (λ b. goes_asked n _))

  abbrev CK : ExprKind → Type 0
  CK k = (ty : Ty) (n : ℕ) → Goes w b (expr_kind S R C F k ty n) (expr_kind S T D F k ty n)

  abbrev CP : PlaceKind → Type 0
  CP k = (ty : Ty) (n : ℕ) → Goes w b (place_kind S R C F k ty n) (place_kind S T D F k ty n)

  pub goes_kind : (k : ExprKind) (ty : Ty) (n : ℕ) → Goes w b (expr_kind S R C F k ty n) (expr_kind S T D F k ty n)
  goes_kind = ind-ExprKind CK CP (λ e. Goes w b (expr S R C F e) (expr S T D F e)) (λ p. Goes w b (place S R C F p) (place S T D F p))
      (λ x y is. subst (λ (z : ExprKind-F ExprKind PlaceKind Expr Place). CK (roll-ExprKind z)) is
      (λ ty n. either (unrolled S R C F _) (unrolled S T D F _) ty n (layer_ok (λ k. k.0) (λ p. p.0) (λ e. e.0) (λ q. q.0) (λ e. e.1) (λ q. q.1) y ty n)))
      (λ x y is. subst (λ (z : PlaceKind-F ExprKind PlaceKind Expr Place). CP (roll-PlaceKind z)) is
      (λ ty n. either (unrolled_place S R C F _) (unrolled_place S T D F _) ty n (place_ok (λ k. k.0) (λ p. p.0) (λ e. e.0) (λ q. q.0) (λ e. e.1) (λ q. q.1) y ty n)))
      (λ x y is. subst (λ (z : Expr-F ExprKind PlaceKind Expr Place). Goes w b (expr S R C F (roll-Expr z)) (expr S T D F (roll-Expr z))) is (y.kind.1 y.ty y.node))
      (λ x y is. subst (λ (z : Place-F ExprKind PlaceKind Expr Place). Goes w b (place S R C F (roll-Place z)) (place S T D F (roll-Place z))) is (y.kind.1 y.ty y.node))

  pub goes_places : (k : PlaceKind) (ty : Ty) (n : ℕ) → Goes w b (place_kind S R C F k ty n) (place_kind S T D F k ty n)
  goes_places = ind-PlaceKind CK CP (λ e. Goes w b (expr S R C F e) (expr S T D F e)) (λ p. Goes w b (place S R C F p) (place S T D F p))
      (λ x y is. subst (λ (z : ExprKind-F ExprKind PlaceKind Expr Place). CK (roll-ExprKind z)) is
      (λ ty n. either (unrolled S R C F _) (unrolled S T D F _) ty n (layer_ok (λ k. k.0) (λ p. p.0) (λ e. e.0) (λ q. q.0) (λ e. e.1) (λ q. q.1) y ty n)))
      (λ x y is. subst (λ (z : PlaceKind-F ExprKind PlaceKind Expr Place). CP (roll-PlaceKind z)) is
      (λ ty n. either (unrolled_place S R C F _) (unrolled_place S T D F _) ty n (place_ok (λ k. k.0) (λ p. p.0) (λ e. e.0) (λ q. q.0) (λ e. e.1) (λ q. q.1) y ty n)))
      (λ x y is. subst (λ (z : Expr-F ExprKind PlaceKind Expr Place). Goes w b (expr S R C F (roll-Expr z)) (expr S T D F (roll-Expr z))) is (y.kind.1 y.ty y.node))
      (λ x y is. subst (λ (z : Place-F ExprKind PlaceKind Expr Place). Goes w b (place S R C F (roll-Place z)) (place S T D F (roll-Place z))) is (y.kind.1 y.ty y.node))

  pub goes_expr : (e : Expr) → Goes w b (expr S R C F e) (expr S T D F e)
  goes_expr e = goes_kind e.kind e.ty e.node

  pub goes_place : (p : Place) → Goes w b (place S R C F p) (place S T D F p)
  goes_place p = goes_places p.kind p.ty p.node
