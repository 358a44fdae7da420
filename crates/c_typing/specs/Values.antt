-- What an operand is as a value, and conversions (C99 6.3).
use Rattle.std.specs.Prelude.{Bool, true, false, ℕ, if◌then◌else◌, Option, Some, None, Result, Ok, Err, ℤ, pos}
use Rattle.std.specs.Ordering.{int_eq}
use Rattle.base16.specs.declared.integer.IntType.{IntType}
use Rattle.core_tree.specs.declared.types.Ty.{Ty, out-Ty}
use Rattle.core_tree.specs.declared.types.Ty.TheVariants as ty
use Rattle.core_tree.specs.declared.types.Ty.TheOpen.{Ty-F}
use Rattle.core_tree.specs.declared.expressions.Expr.{Expr}
use Rattle.core_tree.specs.declared.expressions.ExprKind.{ExprKind}
use Rattle.core_tree.specs.declared.expressions.ExprKind.TheVariants as k
use Rattle.core_tree.specs.declared.expressions.Place.{Place}
use Rattle.core_tree.specs.declared.expressions.PlaceKind.{PlaceKind}
use Rattle.core_tree.specs.Types.{same_int, same_bool}
use Rattle.core_tree.specs.Rules.{converts}
use Rattle.c_rules.specs.Constants.{value as constant_value}
use Rattle.c_typing.specs.declared.fault.Rule.{Rule}
use Rattle.c_typing.specs.declared.operand.Operand.{Operand}
use Rattle.c_typing.specs.declared.operand.Operand.TheVariants as o

-- nodes are numbered when the whole tree stands
abbrev pub typed : ℕ → Ty → ExprKind → Expr
typed line t kind = record { kind = kind; ty = t; node = 0; line = line }

abbrev pub placed : ℕ → Ty → PlaceKind → Place
placed line t kind = record { kind = kind; ty = t; node = 0; line = line }

-- a rule answers a value where it answers an operand
abbrev pub valued : Result Expr Rule → Result Operand Rule
valued (Ok e) = Ok (o.Value e)
valued (Err rule) = Err rule

-- ---- values (C99 6.3.2.1): a scalar place is read, an array is a pointer to its first element; a struct and a function
-- are no values

abbrev pub read_of : Place → Expr
read_of p = typed p.line p.ty (k.Read p)

abbrev pub decay_of : Place → Ty → Bool → Expr
decay_of p of readonly = typed p.line (ty.Pointer of readonly) (k.Address p)

abbrev pub value_by : Place → Bool → Ty-F Ty → Option Expr
value_by p readonly (Ty-F.Num t) = Some (read_of p)
value_by p readonly (Ty-F.Pointer to r) = Some (read_of p)
value_by p readonly (Ty-F.Array of count) = Some (decay_of p of readonly)
value_by p readonly _ = None

unfoldable pub value : Operand → Option Expr
value (o.Value e) = Some e
value (o.Place p readonly) = value_by p readonly (out-Ty p.ty)
value (o.Function place) = None
value (o.Builtin b) = None

-- ---- conversions

-- an integer to an integer type
unfoldable pub to_int : IntType → IntType → Expr → Expr
to_int from to e = if same_int from to then e else typed e.line (ty.Num to) (k.Convert e)

-- a constant 0 is the null pointer of every pointer type
abbrev pub null_by : Ty → Expr → Option ℤ → Option Expr
null_by t e None = None
null_by t e (Some n) = if int_eq n (pos 0) then Some (typed e.line t (k.Constant (pos 0))) else None

unfoldable pub null : Ty → Expr → Option Expr
null t e = null_by t e (constant_value e)

-- a pointer that may add const to what it points to
abbrev pub repointed : Ty → Bool → Bool → Expr → Expr
repointed t readonly was_readonly e = if same_bool readonly was_readonly then e else typed e.line t (k.Convert e)

abbrev pub convert_by : Ty → Ty-F Ty → Ty-F Ty → Expr → Option Expr
convert_by t (Ty-F.Num to) (Ty-F.Num from) e = Some (to_int from to e)
convert_by t (Ty-F.Pointer to r) (Ty-F.Pointer from s) e = if converts e.ty t then Some (repointed t r s e) else None
convert_by t (Ty-F.Pointer to r) (Ty-F.Num from) e = null t e
convert_by t _ _ e = None

-- an expression in a type, as if by assignment; none where it does not convert
unfoldable pub converted : Ty → Expr → Option Expr
converted t e = convert_by t (out-Ty t) (out-Ty e.ty) e
