-- The operands of a cast are the sizes in its type and behind them what is cast. A place, a function and a name that
-- every source has are not constant.
use Rattle.std.proofs.Common.{◌≡◌, Bool, List, [], ◌∷◌, ◌++◌, map, None, refl, ap, rules}
use Rattle.core_tree.specs.declared.types.Ty.{Ty, out-Ty}
use Rattle.core_tree.specs.declared.types.Ty.TheOpen.{Ty-F}
use Rattle.core_tree.specs.declared.expressions.Place.{Place}
use Rattle.core_tree.specs.declared.expressions.ExprKind.{the_lemmas}
use Rattle.c_rules.specs.Constants.{value as constant_value, part_of}
use Rattle.c_typing.specs.declared.operand.Operand.{Operand}
use Rattle.c_typing.specs.declared.operand.Operand.TheVariants as o
use Rattle.c_typing.specs.Values.{value, value_by, read_of, decay_of}
use Rattle.c_typing.specs.TypeNames.{constant_of, count_of, sizes_before, last_value}

read_is_no_constant : (p : Place) → constant_value (read_of p) ≡ None
unfolding constant_value part_of
read_is_no_constant p = search (rules, the_lemmas)

address_is_no_constant : (p : Place) (of : Ty) (readonly : Bool) → constant_value (decay_of p of readonly) ≡ None
unfolding constant_value part_of
address_is_no_constant p of readonly = search (rules, the_lemmas)

value_is_no_constant : (p : Place) (readonly : Bool) (t : Ty-F Ty) → constant_of (value_by p readonly t) ≡ None
value_is_no_constant p readonly Ty-F.Void = refl
value_is_no_constant p readonly (Ty-F.Num t) = read_is_no_constant p
value_is_no_constant p readonly (Ty-F.Pointer to r) = read_is_no_constant p
value_is_no_constant p readonly (Ty-F.Array of count) = address_is_no_constant p of readonly
value_is_no_constant p readonly (Ty-F.Struct tag) = refl

pub place_is_no_constant : (p : Place) (readonly : Bool) → constant_of (value (o.Place p readonly)) ≡ None
unfolding value
place_is_no_constant p readonly = value_is_no_constant p readonly (out-Ty p.ty)

pub sizes_but_last : (sizes : List Operand) (x : Operand) → sizes_before (sizes ++ x ∷ []) ≡ map count_of sizes
sizes_but_last [] x = refl
sizes_but_last (y ∷ []) x = refl
sizes_but_last (y ∷ z ∷ more) x = ap (λ ns. count_of y ∷ ns) (sizes_but_last (z ∷ more) x)

pub value_of_last : (sizes : List Operand) (x : Operand) → last_value (sizes ++ x ∷ []) ≡ value x
value_of_last [] x = refl
value_of_last (y ∷ []) x = refl
value_of_last (y ∷ z ∷ more) x = value_of_last (z ∷ more) x
