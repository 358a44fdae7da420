-- Each kind of place as an address.
use Rattle.std.proofs.Common.{◌≡◌, ℕ, List, Option, None, Some, ap, ◌∙◌, rules}
use Rattle.base16.specs.declared.integer.IntType.{IntType}
use Rattle.core_tree.specs.declared.types.Ty.{Ty, out-Ty}
use Rattle.core_tree.specs.declared.types.Struct.{Struct}
use Rattle.core_tree.specs.declared.expressions.Expr.{Expr}
use Rattle.core_tree.specs.declared.expressions.Place.{Place}
use Rattle.core_tree.specs.declared.expressions.ExprKind.{the_lemmas}
use Rattle.core_tree.specs.declared.expressions.PlaceKind.{PlaceKind}
use Rattle.core_tree.specs.declared.expressions.PlaceKind.TheVariants as k
use Rattle.core_tree.specs.declared.expressions.ExprKind.TheOpen.{ExprKind-F, PlaceKind-F}
use Rattle.core_tree.specs.Layout.{stride, member_stride}
use Rattle.c_rules.specs.Constants.{Known, known_layer, value_at, value}
use Rattle.c_checking.specs.Constants.{Address, Located, address, moved, element, no_places, place_step}
use Rattle.c_initialisers.proofs.Indexes.{Where, place_by, part_by, located_by, known_blind, index_is}

module _ {Part : Type 0} (part : IntType → Known → Part)
    (step : ExprKind-F (Ty → Known) (Unit {0}) Part (Unit {0}) → Ty → Known)
    (at : PlaceKind-F (Ty → Known) Where Part Located → Where)
    (blind : (y : ExprKind-F (Ty → Known) (Unit {0}) Part (Unit {0})) (ty : Ty) → step y ty ≡ step (no_places y) ty) where
  abbrev by : PlaceKind → Ty → Option Address
  by = place_by part step at blind

  here : {a : PlaceKind} {l : Where} (p : Place) → p.kind ≡ a → by a ≡ l → by p.kind p.ty ≡ l p.ty
  here p is e = ap (λ (kind : PlaceKind). by kind p.ty) is ∙ ap (λ (f : Where). f p.ty) e

  fold-Global : (n : ℕ) → by (k.Global n) ≡ at (PlaceKind-F.Global n)
  fold-Global n = search (rules, the_lemmas)

  fold-Local : (n : ℕ) → by (k.Local n) ≡ at (PlaceKind-F.Local n)
  fold-Local n = search (rules, the_lemmas)

  fold-Deref : (e : Expr) → by (k.Deref e) ≡ at (PlaceKind-F.Deref (part_by part step at blind e))
  fold-Deref e = search (rules, the_lemmas)

  fold-At : (l r : Expr)
      → by (k.At l r) ≡ at (PlaceKind-F.At (part_by part step at blind l) (part_by part step at blind r))
  fold-At l r = search (rules, the_lemmas)

  fold-Member : (of : Place) (tag member : ℕ)
      → by (k.Member of tag member) ≡ at (PlaceKind-F.Member (located_by part step at blind of) tag member)
  fold-Member of tag member = search (rules, the_lemmas)

  fold-Element : (of : Place) (index : Expr)
      → by (k.Element of index)
      ≡ at (PlaceKind-F.Element (located_by part step at blind of) (part_by part step at blind index))
  fold-Element of index = search (rules, the_lemmas)

  variable_here : (p : Place) (n : ℕ) → p.kind ≡ k.Global n
      → by p.kind p.ty ≡ at (PlaceKind-F.Global n) p.ty
  variable_here p n is = here p is (fold-Global n)

  local_here : (p : Place) (n : ℕ) → p.kind ≡ k.Local n
      → by p.kind p.ty ≡ at (PlaceKind-F.Local n) p.ty
  local_here p n is = here p is (fold-Local n)

  target_here : (p : Place) (e : Expr) → p.kind ≡ k.Deref e
      → by p.kind p.ty ≡ at (PlaceKind-F.Deref (part_by part step at blind e)) p.ty
  target_here p e is = here p is (fold-Deref e)

  sum_here : (p : Place) (l r : Expr) → p.kind ≡ k.At l r
      → by p.kind p.ty ≡ at (PlaceKind-F.At (part_by part step at blind l) (part_by part step at blind r)) p.ty
  sum_here p l r is = here p is (fold-At l r)

  member_here : (p : Place) (of : Place) (tag member : ℕ) → p.kind ≡ k.Member of tag member
      → by p.kind p.ty ≡ at (PlaceKind-F.Member (located_by part step at blind of) tag member) p.ty
  member_here p of tag member is = here p is (fold-Member of tag member)

  element_here : (p : Place) (of : Place) (index : Expr) → p.kind ≡ k.Element of index
      → by p.kind p.ty ≡ at (PlaceKind-F.Element (located_by part step at blind of) (part_by part step at blind index)) p.ty
  element_here p of index is = here p is (fold-Element of index)

pub variable_is : (structs : List Struct) (p : Place) (n : ℕ) → p.kind ≡ k.Global n
    → address structs p ≡ Some (record { global = n; offset = 0 })
unfolding address
variable_is structs p n is =
    variable_here (λ t known. record { at = t; known = known }) known_layer
    (place_step (λ index. value_at index.at index.known) structs) known_blind p n is

pub local_is : (structs : List Struct) (p : Place) (n : ℕ) → p.kind ≡ k.Local n → address structs p ≡ None
unfolding address
local_is structs p n is =
    local_here (λ t known. record { at = t; known = known }) known_layer
    (place_step (λ index. value_at index.at index.known) structs) known_blind p n is

pub target_is : (structs : List Struct) (p : Place) (e : Expr) → p.kind ≡ k.Deref e → address structs p ≡ None
unfolding address
target_is structs p e is =
    target_here (λ t known. record { at = t; known = known }) known_layer
    (place_step (λ index. value_at index.at index.known) structs) known_blind p e is

pub sum_is : (structs : List Struct) (p : Place) (l r : Expr) → p.kind ≡ k.At l r → address structs p ≡ None
unfolding address
sum_is structs p l r is =
    sum_here (λ t known. record { at = t; known = known }) known_layer
    (place_step (λ index. value_at index.at index.known) structs) known_blind p l r is

pub member_is : (structs : List Struct) (p of : Place) (tag member : ℕ) → p.kind ≡ k.Member of tag member
    → address structs p ≡ moved (member_stride structs tag member) (address structs of)
unfolding address
member_is structs p of tag member is =
    member_here (λ t known. record { at = t; known = known }) known_layer
    (place_step (λ index. value_at index.at index.known) structs) known_blind p of tag member is

pub element_is : (structs : List Struct) (p of : Place) (index : Expr) → p.kind ≡ k.Element of index
    → address structs p ≡ element (stride structs p.ty) (out-Ty of.ty) (value index) (address structs of)
unfolding address
element_is structs p of index is =
    element_here (λ t known. record { at = t; known = known }) known_layer
    (place_step (λ index. value_at index.at index.known) structs) known_blind p of index is
    ∙ ap (λ v. element (stride structs p.ty) (out-Ty of.ty) v (address structs of)) (index_is structs index)

-- what each kind of place is
pub ruleset kinds_of_places = (variable_is, local_is, target_is, sum_is, member_is, element_is)
