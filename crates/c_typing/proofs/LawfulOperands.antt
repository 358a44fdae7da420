-- Values, `*` and `&` of lawful operands are lawful.
use Rattle.std.proofs.Common.{◌≡◌, ℕ, Bool, true, false, Option, Some, None, Result, Ok, Err, refl, sym, ap, ◌∙◌, rules}
use Rattle.core_tree.specs.declared.types.Ty.{Ty, out-Ty, the_lemmas}
use Rattle.core_tree.specs.declared.types.Ty.TheVariants as ty
use Rattle.core_tree.specs.declared.types.Ty.TheOpen.{Ty-F}
use Rattle.core_tree.specs.declared.expressions.Expr.{Expr}
use Rattle.core_tree.specs.declared.expressions.Place.{Place}
use Rattle.core_tree.specs.declared.expressions.PlaceKind.{the_lemmas as place_lemmas}
use Rattle.core_tree.specs.declared.expressions.PlaceKind.TheVariants as pk
use Rattle.core_tree.specs.declared.expressions.ExprKind.TheVariants as k
use Rattle.core_tree.specs.Rules.{is_scalar, scalar_layer}
use Rattle.core_tree.specs.Lawful.{Scope, IsExpr, is_expr, IsPlace, is_place, LawfulExpr, IsUntimed, is_const, is_array, array_layer, points_to_const, read, decayed, address as taken, pointed}
use Rattle.c_typing.specs.declared.operand.Operand.{Operand}
use Rattle.c_typing.specs.declared.operand.Operand.TheVariants as o
use Rattle.c_typing.specs.Values.{typed, placed, read_of, decay_of, value, value_by}
use Rattle.c_typing.specs.Places.{deref, deref_by, address, address_by}
use Rattle.c_typing.specs.LawfulPlaces.{LawfulOperand, ValueIsLawful, DerefIsLawful, AddressIsLawful}

-- before the annotations are checked, nothing is asked of timed variables
untimed : (s : Scope) (p : Place) → s.annotated ≡ false → IsUntimed s p
untimed s p early late = absurd (search rules)

-- ---- values

read_lawful : (s : Scope) (p : Place) (v : Expr) → IsPlace s p p.ty → is_scalar p.ty ≡ true → Some (read_of p) ≡ Some v
    → LawfulExpr s v
read_lawful s p v at_p scalar is =
    let e : read_of p ≡ v = cc in rw (← e) (is_expr _ _ refl (read p p.ty at_p scalar))

scalar_by : (t : Ty) (l : Ty-F Ty) → out-Ty t ≡ l → scalar_layer l ≡ true → is_scalar t ≡ true
unfolding is_scalar
scalar_by t l is scalar = ap scalar_layer is ∙ scalar

value_by_lawful : (s : Scope) (p : Place) (readonly : Bool) (v : Expr) (l : Ty-F Ty) → out-Ty p.ty ≡ l → s.annotated ≡ false
    → IsPlace s p p.ty → (is_const p.kind ≡ true → readonly ≡ true) → value_by p readonly l ≡ Some v → LawfulExpr s v
value_by_lawful s p readonly v (Ty-F.Num t) at_l early at_p const is =
    read_lawful s p v at_p (scalar_by p.ty (Ty-F.Num t) at_l refl) is
value_by_lawful s p readonly v (Ty-F.Pointer to r) at_l early at_p const is =
    read_lawful s p v at_p (scalar_by p.ty (Ty-F.Pointer to r) at_l refl) is
value_by_lawful s p readonly v (Ty-F.Array of count) at_l early at_p const is =
    let h : p.ty ≡ ty.Array of count = search (rules, the_lemmas) in
    let at_array : IsPlace s p (ty.Array of count) = rw (← h) at_p in
    let e : decay_of p of readonly ≡ v = cc in
    rw (← e) (is_expr _ _ refl (decayed p of count readonly at_array const (untimed s p early)))
value_by_lawful s p readonly v Ty-F.Void at_l early at_p const is = absurd (search rules)
value_by_lawful s p readonly v (Ty-F.Struct tag) at_l early at_p const is = absurd (search rules)

pub value_lawful : (s : Scope) (x : Operand) (v : Expr) → ValueIsLawful s x v
unfolding value
value_lawful s (o.Value e) v early at_x is = let h : e ≡ v = cc in rw (← h) at_x
value_lawful s (o.Place p readonly) v early at_x is =
    value_by_lawful s p readonly v (out-Ty p.ty) refl early at_x.0 at_x.1 is
value_lawful s (o.Function place) v early at_x is = absurd (search rules)
value_lawful s (o.Builtin b) v early at_x is = absurd (search rules)

-- ---- `*`

const_deref : (e : Expr) → is_const (pk.Deref e) ≡ points_to_const (out-Ty e.ty)
const_deref e = search (rules, place_lemmas)

deref_by_lawful : (s : Scope) (line : ℕ) (e : Expr) (x : Operand) (l : Ty-F Ty) → out-Ty e.ty ≡ l → LawfulExpr s e
    → deref_by line e l ≡ Ok x → LawfulOperand s x
deref_by_lawful s line e x (Ty-F.Pointer to readonly) at_l at_e is =
    let h : e.ty ≡ ty.Pointer to readonly = search (rules, the_lemmas) in
    let at_pointer : IsExpr s e (ty.Pointer to readonly) = rw (← h) at_e in
    let is_x : o.Place (placed line to (pk.Deref e)) readonly ≡ x = cc in
    let same : is_const (pk.Deref e) ≡ readonly = const_deref e ∙ ap points_to_const at_l in
    rw (← is_x) (is_place _ _ refl (pointed e to readonly at_pointer), λ c. sym same ∙ c)
deref_by_lawful s line e x Ty-F.Void at_l at_e is = absurd (search rules)
deref_by_lawful s line e x (Ty-F.Num t) at_l at_e is = absurd (search rules)
deref_by_lawful s line e x (Ty-F.Array of count) at_l at_e is = absurd (search rules)
deref_by_lawful s line e x (Ty-F.Struct tag) at_l at_e is = absurd (search rules)

pub deref_lawful : (s : Scope) (line : ℕ) (e : Expr) (x : Operand) → DerefIsLawful s line e x
unfolding deref
deref_lawful s line e x at_e is = deref_by_lawful s line e x (out-Ty e.ty) refl at_e is

-- ---- `&`

taken_lawful : (s : Scope) (line : ℕ) (p : Place) (readonly : Bool) (made : Expr) → is_array p.ty ≡ false
    → s.annotated ≡ false → LawfulOperand s (o.Place p readonly)
    → typed line (ty.Pointer p.ty readonly) (k.Address p) ≡ made → LawfulExpr s made
taken_lawful s line p readonly made whole early at_p is =
    rw (← is) (is_expr _ _ refl (taken p p.ty readonly at_p.0 whole at_p.1 (untimed s p early)))

address_by_lawful : (s : Scope) (line : ℕ) (p : Place) (readonly : Bool) (made : Expr) (l : Ty-F Ty) → out-Ty p.ty ≡ l
    → s.annotated ≡ false → LawfulOperand s (o.Place p readonly) → address_by line p readonly l ≡ Ok made → LawfulExpr s made
address_by_lawful s line p readonly made Ty-F.Void at_l early at_p is =
    let e : typed line (ty.Pointer p.ty readonly) (k.Address p) ≡ made = cc in
    taken_lawful s line p readonly made (ap array_layer at_l) early at_p e
address_by_lawful s line p readonly made (Ty-F.Num t) at_l early at_p is =
    let e : typed line (ty.Pointer p.ty readonly) (k.Address p) ≡ made = cc in
    taken_lawful s line p readonly made (ap array_layer at_l) early at_p e
address_by_lawful s line p readonly made (Ty-F.Pointer to r) at_l early at_p is =
    let e : typed line (ty.Pointer p.ty readonly) (k.Address p) ≡ made = cc in
    taken_lawful s line p readonly made (ap array_layer at_l) early at_p e
address_by_lawful s line p readonly made (Ty-F.Struct tag) at_l early at_p is =
    let e : typed line (ty.Pointer p.ty readonly) (k.Address p) ≡ made = cc in
    taken_lawful s line p readonly made (ap array_layer at_l) early at_p e
address_by_lawful s line p readonly made (Ty-F.Array of count) at_l early at_p is = absurd (search rules)

pub address_lawful : (s : Scope) (line : ℕ) (p : Place) (readonly : Bool) (made : Expr) → AddressIsLawful s line p readonly made
unfolding address
address_lawful s line p readonly made early at_p is =
    address_by_lawful s line p readonly made (out-Ty p.ty) refl early at_p is
