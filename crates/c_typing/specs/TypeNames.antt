-- The names of types, `sizeof` and casts (C99 6.5.3.4, 6.5.4 and 6.7.6), or the least rule that is broken.
use Rattle.std.specs.Prelude.{Bool, true, false, ◌||◌, ◌&&◌, ℕ, if◌then◌else◌, nat_lt, nat_le, List, [], ◌∷◌, map, Option, Some, None, Result, Ok, Err, ℤ, pos, negsuc}
use Rattle.base16.specs.declared.integer.IntType.{IntType}
use Rattle.base16.specs.declared.integer.IntType.TheVariants.{Char, Int, UInt}
use Rattle.c_tree.specs.declared.qualified.Spec.{Spec}
use Rattle.c_tree.specs.declared.qualified.Base.{Base}
use Rattle.c_tree.specs.declared.qualified.Base.TheVariants as base
use Rattle.c_tree.specs.declared.qualified.Sign.{Sign}
use Rattle.c_tree.specs.declared.qualified.Sign.TheVariants.{Unsigned}
use Rattle.c_tree.specs.declared.qualified.Qual.{Qual}
use Rattle.c_tree.specs.declared.qualified.Qual.TheVariants.{Const, Volatile}
use Rattle.core_tree.specs.declared.types.Ty.{Ty, out-Ty}
use Rattle.core_tree.specs.declared.types.Ty.TheVariants as ty
use Rattle.core_tree.specs.declared.types.Ty.TheOpen.{Ty-F}
use Rattle.core_tree.specs.declared.expressions.Expr.{Expr}
use Rattle.core_tree.specs.declared.expressions.ExprKind.TheVariants as k
use Rattle.core_tree.specs.Layout.{stride}
use Rattle.core_tree.specs.Rules.{casts}
use Rattle.c_rules.specs.Constants.{value as constant_value}
use Rattle.c_typing.specs.declared.fault.Rule.{Rule}
use Rattle.c_typing.specs.declared.fault.Rule.TheVariants.{Unknown, WrongType, Incomplete, TooBig, NotConstant}
use Rattle.c_typing.specs.declared.operand.Operand.{Operand}
use Rattle.c_typing.specs.declared.environment.Env.{Env}
use Rattle.c_typing.specs.Scopes.{tag_of, is_sized}
use Rattle.c_typing.specs.Values.{typed, value}
use Rattle.c_typing.specs.Places.{operand_type}

-- ---- base types and pointers

abbrev pub signed_int : Option Sign → IntType
signed_int (Some Unsigned) = UInt
signed_int _ = Int

abbrev pub struct_type : Option ℕ → Result Ty Rule
struct_type None = Err Unknown
struct_type (Some tag) = Ok (ty.Struct tag)

unfoldable pub base_type : Env → Base → Result Ty Rule
base_type env base.Void = Ok ty.Void
base_type env base.Char = Ok (ty.Num Char)
base_type env base.UnsignedChar = Ok (ty.Num Char)
base_type env (base.Struct tag) = struct_type (tag_of env tag)
base_type env (base.Int signed) = Ok (ty.Num Int)
base_type env base.Signed = Ok (ty.Num Int)
base_type env (base.Unsigned with_int) = Ok (ty.Num UInt)
base_type env (base.Short sign with_int) = Ok (ty.Num (signed_int sign))

abbrev pub has_const : List Qual → Bool
has_const [] = false
has_const (Const ∷ quals) = true
has_const (Volatile ∷ quals) = has_const quals

-- a type, and whether what has it is const
pub record Qualified : Type 0 where
  pub ty : Ty
  pub readonly : Bool

-- a pointer for each `*`, with the qualifiers behind it
abbrev pub pointed : Qualified → List (List Qual) → Qualified
pointed t [] = t
pointed t (quals ∷ more) = pointed (record { ty = ty.Pointer t.ty t.readonly; readonly = has_const quals }) more

-- an array for each size, the first one outermost
abbrev pub arrays : Ty → List ℕ → Ty
arrays t [] = t
arrays t (n ∷ more) = ty.Array (arrays t more) n

abbrev pub qualified : Spec → List (List Qual) → Result Ty Rule → Result Qualified Rule
qualified sp stars (Err rule) = Err rule
qualified sp stars (Ok t) =
    Ok (pointed (record { ty = t; readonly = has_const sp.before || has_const sp.after }) stars)

-- the type of a base, its stars and the sizes behind
abbrev pub whole_type : Result Qualified Rule → List ℕ → Result Ty Rule
whole_type (Err rule) counts = Err rule
whole_type (Ok t) counts = Ok (arrays t.ty counts)

-- the words of a type's name
pub record Words : Type 0 where
  pub spec : Spec
  pub stars : List (List Qual)

abbrev pub type_named : Env → Words → List ℕ → Result Ty Rule
type_named env words counts = whole_type (qualified words.spec words.stars (base_type env words.spec.base)) counts

-- ---- the sizes of arrays

abbrev pub constant_of : Option Expr → Option ℤ
constant_of None = None
constant_of (Some e) = constant_value e

-- a constant from 1 to 32,767
abbrev pub array_size : Option ℤ → Result ℕ Rule
array_size None = Err NotConstant
array_size (Some (pos n)) = if nat_lt 0 n && nat_le n 32767 then Ok n else Err Incomplete
array_size (Some (negsuc n)) = Err Incomplete

abbrev pub as_size_by : Operand → Result ℕ Rule → Result Operand Rule
as_size_by x (Ok n) = Ok x
as_size_by x (Err rule) = Err rule

-- an operand where the size of an array stands
abbrev pub as_size : Operand → Result Operand Rule
as_size x = as_size_by x (array_size (constant_of (value x)))

abbrev pub count_by : Result ℕ Rule → ℕ
count_by (Ok n) = n
count_by (Err rule) = 0

-- the number of elements that such an operand says
abbrev pub count_of : Operand → ℕ
count_of x = count_by (array_size (constant_of (value x)))

-- ---- `sizeof`: nothing is evaluated, an array is no pointer

unfoldable pub size_constant : Env → ℕ → Ty → Result Expr Rule
size_constant env line t =
    if is_sized env t then
    (if nat_lt 65535 (stride env.structs t) then Err TooBig
    else Ok (typed line (ty.Num UInt) (k.Constant (pos (stride env.structs t)))))
    else Err Incomplete

abbrev pub size_of_operand : Env → ℕ → Option Ty → Result Expr Rule
size_of_operand env line None = Err WrongType
size_of_operand env line (Some t) = size_constant env line t

abbrev pub size_of_named : Env → ℕ → Result Ty Rule → Result Expr Rule
size_of_named env line (Err rule) = Err rule
size_of_named env line (Ok t) = size_constant env line t

-- ---- casts

abbrev pub cast_to : ℕ → Ty → Option Expr → Result Expr Rule
cast_to line t None = Err WrongType
cast_to line t (Some e) = if casts e.ty t then Ok (typed line t (k.Convert e)) else Err WrongType

abbrev pub cast : ℕ → Result Ty Rule → Option Expr → Result Expr Rule
cast line (Err rule) v = Err rule
cast line (Ok t) v = cast_to line t v

-- the operands of a cast are the sizes in its type and then what is cast
abbrev pub sizes_before : List Operand → List ℕ
sizes_before [] = []
sizes_before (x ∷ []) = []
sizes_before (x ∷ y ∷ more) = count_of x ∷ sizes_before (y ∷ more)

abbrev pub last_value : List Operand → Option Expr
last_value [] = None
last_value (x ∷ []) = value x
last_value (x ∷ y ∷ more) = last_value (y ∷ more)
