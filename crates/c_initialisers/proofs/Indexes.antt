-- An index in a place has the value that the rules of constants give it.
use Rattle.std.proofs.Common.{◌≡◌, List, Option, refl, ap, sym, ◌∙◌, subst, rules}
use Rattle.base16.specs.declared.integer.IntType.{IntType}
use Rattle.core_tree.specs.declared.types.Ty.{Ty}
use Rattle.core_tree.specs.declared.types.Struct.{Struct}
use Rattle.core_tree.specs.declared.expressions.Expr.{Expr, Expr-F, roll-Expr}
use Rattle.core_tree.specs.declared.expressions.Place.{Place}
use Rattle.core_tree.specs.declared.expressions.ExprKind.{ExprKind, roll-ExprKind, map-ExprKind, fold-ExprKind, ind-ExprKind, the_lemmas}
use Rattle.core_tree.specs.declared.expressions.PlaceKind.{PlaceKind, fold-PlaceKind}
use Rattle.core_tree.specs.declared.expressions.ExprKind.TheOpen.{ExprKind-F, PlaceKind-F}
use Rattle.core_tree.specs.Layout.{int_type_of}
use Rattle.c_rules.specs.Constants.{Known, known_layer, value_at, part_of, value}
use Rattle.c_checking.specs.Constants.{Address, Located, no_places, place_step}

abbrev pub Where : Type 0
Where = Ty → Option Address

-- for any parts of expressions, any meaning of a place, and any meaning of an expression that looks at no places
module _ {Part : Type 0} (part : IntType → Known → Part)
    (step : ExprKind-F (Ty → Known) (Unit {0}) Part (Unit {0}) → Ty → Known)
    (at : PlaceKind-F (Ty → Known) Where Part Located → Where)
    (blind : (y : ExprKind-F (Ty → Known) (Unit {0}) Part (Unit {0})) (ty : Ty) → step y ty ≡ step (no_places y) ty) where
  abbrev pub known_by : ExprKind → Ty → Known
  known_by =
      fold-ExprKind (Ty → Known) Where Part Located (λ e. step (no_places e)) at
      (λ e. part (int_type_of e.ty) (e.kind e.ty)) (λ p. record { ty = p.ty; address = p.kind p.ty })

  abbrev pub place_by : PlaceKind → Ty → Option Address
  place_by =
      fold-PlaceKind (Ty → Known) Where Part Located (λ e. step (no_places e)) at
      (λ e. part (int_type_of e.ty) (e.kind e.ty)) (λ p. record { ty = p.ty; address = p.kind p.ty })

  abbrev pub known_alone : ExprKind → Ty → Known
  known_alone =
      fold-ExprKind (Ty → Known) (Unit {0}) Part (Unit {0}) step (λ p. tt)
      (λ e. part (int_type_of e.ty) (e.kind e.ty)) (λ p. tt)

  abbrev pub part_by : Expr → Part
  part_by e = part (int_type_of e.ty) (known_by e.kind e.ty)

  abbrev pub part_alone : Expr → Part
  part_alone e = part (int_type_of e.ty) (known_alone e.kind e.ty)

  abbrev pub located_by : Place → Located
  located_by p = record { ty = p.ty; address = place_by p.kind p.ty }

  abbrev layer_by : ExprKind-F ExprKind PlaceKind Expr Place → ExprKind-F (Ty → Known) Where Part Located
  layer_by =
      map-ExprKind ExprKind PlaceKind Expr Place (Ty → Known) Where Part Located known_by place_by part_by located_by

  abbrev layer_alone : ExprKind-F ExprKind PlaceKind Expr Place → ExprKind-F (Ty → Known) (Unit {0}) Part (Unit {0})
  layer_alone =
      map-ExprKind ExprKind PlaceKind Expr Place (Ty → Known) (Unit {0}) Part (Unit {0})
      known_alone (λ p. tt) part_alone (λ p. tt)

  unrolled_by : (z : ExprKind-F ExprKind PlaceKind Expr Place) → known_by (roll-ExprKind z) ≡ step (no_places (layer_by z))
  unrolled_by z = search (rules, the_lemmas)

  unrolled_alone : (z : ExprKind-F ExprKind PlaceKind Expr Place) → known_alone (roll-ExprKind z) ≡ step (layer_alone z)
  unrolled_alone z = search (rules, the_lemmas)

  module _ {K P E Q : Type 0} (k0 : K → ExprKind) (p0 : P → PlaceKind) (e0 : E → Expr) (q0 : Q → Place)
      (same : (e : E) → part_by (e0 e) ≡ part_alone (e0 e)) where
    abbrev opened : ExprKind-F K P E Q → ExprKind-F ExprKind PlaceKind Expr Place
    opened = map-ExprKind K P E Q ExprKind PlaceKind Expr Place k0 p0 e0 q0

    kind_case : (y : ExprKind-F K P E Q) → no_places (layer_by (opened y)) ≡ no_places (layer_alone (opened y))
    kind_case (ExprKind-F.Convert e) = ap (λ a. ExprKind-F.Convert a) (same e)
    kind_case (ExprKind-F.Unary o e) = ap (λ a. ExprKind-F.Unary o a) (same e)
    kind_case (ExprKind-F.Binary o t l r) =
        ap (λ a. ExprKind-F.Binary o t a (part_by (e0 r))) (same l)
        ∙ ap (λ b. ExprKind-F.Binary o t (part_alone (e0 l)) b) (same r)
    kind_case (ExprKind-F.And l r) =
        ap (λ a. ExprKind-F.And a (part_by (e0 r))) (same l) ∙ ap (λ b. ExprKind-F.And (part_alone (e0 l)) b) (same r)
    kind_case (ExprKind-F.Or l r) =
        ap (λ a. ExprKind-F.Or a (part_by (e0 r))) (same l) ∙ ap (λ b. ExprKind-F.Or (part_alone (e0 l)) b) (same r)
    kind_case (ExprKind-F.Conditional t l r) =
        ap (λ a. ExprKind-F.Conditional a (part_by (e0 l)) (part_by (e0 r))) (same t)
        ∙ ap (λ b. ExprKind-F.Conditional (part_alone (e0 t)) b (part_by (e0 r))) (same l)
        ∙ ap (λ c. ExprKind-F.Conditional (part_alone (e0 t)) (part_alone (e0 l)) c) (same r)
    kind_case _ = refl

    layer_case : (y : ExprKind-F K P E Q) (ty : Ty)
        → step (no_places (layer_by (opened y))) ty ≡ step (layer_alone (opened y)) ty
    layer_case y ty = ap (λ x. step x ty) (kind_case y) ∙ sym (blind (layer_alone (opened y)) ty)

  abbrev KindSame : ExprKind → Type 0
  KindSame k = (ty : Ty) → known_by k ty ≡ known_alone k ty

  abbrev ExprSame : Expr → Type 0
  ExprSame e = part_by e ≡ part_alone e

  either : {p p1 q q1 : Ty → Known} → p ≡ p1 → q ≡ q1 → (ty : Ty) → p1 ty ≡ q1 ty → p ty ≡ q ty
  either a b ty h = ap (λ f. f ty) a ∙ h ∙ ap (λ f. f ty) (sym b)

  pub kind_same : (k : ExprKind) (ty : Ty) → known_by k ty ≡ known_alone k ty
  kind_same =
      ind-ExprKind KindSame (λ p. Unit {0}) ExprSame (λ p. Unit {0})
      (λ x y is. subst (λ (z : ExprKind-F ExprKind PlaceKind Expr Place). KindSame (roll-ExprKind z)) is
      (λ ty. either (unrolled_by _) (unrolled_alone _) ty
      (layer_case (λ k. k.0) (λ p. p.0) (λ e. e.0) (λ q. q.0) (λ e. e.1) y ty)))
      (λ x y is. tt)
      (λ x y is. subst (λ (z : Expr-F ExprKind PlaceKind Expr Place). ExprSame (roll-Expr z)) is
      (ap (part (int_type_of y.ty)) (y.kind.1 y.ty)))
      (λ x y is. tt)

-- what is known of an expression depends on no place
pub known_blind : (y : ExprKind-F (Ty → Known) (Unit {0}) _ (Unit {0})) (ty : Ty)
    → known_layer y ty ≡ known_layer (no_places y) ty
known_blind (ExprKind-F.Constant n) ty = refl
known_blind (ExprKind-F.Convert e) ty = refl
known_blind (ExprKind-F.Unary o e) ty = refl
known_blind (ExprKind-F.Binary o t l r) ty = refl
known_blind (ExprKind-F.And l r) ty = refl
known_blind (ExprKind-F.Or l r) ty = refl
known_blind (ExprKind-F.Conditional t l r) ty = refl
known_blind _ ty = refl

pub index_is : (structs : List Struct) (e : Expr)
    → value_at (int_type_of e.ty)
    (known_by (λ t known. record { at = t; known = known }) known_layer
    (place_step (λ index. value_at index.at index.known) structs) known_blind e.kind e.ty)
    ≡ value e
unfolding value part_of
index_is structs e =
    ap (value_at (int_type_of e.ty))
    (kind_same (λ t known. record { at = t; known = known }) known_layer
    (place_step (λ index. value_at index.at index.known) structs) known_blind e.kind e.ty)
