-- What an index, a member, `*` and `&` are, and stores (C99 6.5.2.1 to 6.5.2.4, 6.5.3.1, 6.5.3.2 and 6.5.16), or the
-- least rule that is broken.
use Rattle.std.specs.Prelude.{Bool, true, false, ◌||◌, ℕ, if◌then◌else◌, List, Option, Some, None, Result, Ok, Err, ℤ, pos}
use Rattle.base16.specs.declared.integer.IntType.{IntType}
use Rattle.base16.specs.declared.integer.IntType.TheVariants.{Int}
use Rattle.base16.specs.declared.operator.BinaryOp.{BinaryOp}
use Rattle.core_tree.specs.declared.types.Ty.{Ty, out-Ty}
use Rattle.core_tree.specs.declared.types.Ty.TheVariants as ty
use Rattle.core_tree.specs.declared.types.Ty.TheOpen.{Ty-F}
use Rattle.core_tree.specs.declared.expressions.Expr.{Expr}
use Rattle.core_tree.specs.declared.expressions.ExprKind.TheVariants as k
use Rattle.core_tree.specs.declared.expressions.Place.{Place}
use Rattle.core_tree.specs.declared.expressions.PlaceKind.TheVariants as pk
use Rattle.core_tree.specs.Layout.{members_of}
use Rattle.core_tree.specs.Rules.{balanced, is_integer, is_scalar, is_comparison, takes_pointer_integer, computed_in, right_in}
use Rattle.c_typing.specs.declared.fault.Rule.{Rule}
use Rattle.c_typing.specs.declared.fault.Rule.TheVariants.{Unknown, WrongType, NotPlace, Incomplete, ConstWrite}
use Rattle.c_typing.specs.declared.operand.Operand.{Operand}
use Rattle.c_typing.specs.declared.operand.Operand.TheVariants as o
use Rattle.c_typing.specs.declared.environment.Env.{Env}
use Rattle.c_typing.specs.Scopes.{Found, member_from, is_const_member, is_complete, is_marked}
use Rattle.c_typing.specs.Values.{typed, placed, value, to_int, converted}
use Rattle.c_typing.specs.Operators.{on_complete}

-- ---- an index

-- what the sum of a pointer and an integer points to
abbrev pub pointed_at : Env → ℕ → Ty → Bool → Expr → Expr → Result Operand Rule
pointed_at env line to readonly a b =
    if is_complete env to then Ok (o.Place (placed line to (pk.At a b)) readonly) else Err Incomplete

abbrev pub at_by : Env → ℕ → Ty-F Ty → Expr → Ty-F Ty → Expr → Result Operand Rule
at_by env line (Ty-F.Pointer to readonly) a (Ty-F.Num t) b = pointed_at env line to readonly a b
at_by env line (Ty-F.Num t) a (Ty-F.Pointer to readonly) b = pointed_at env line to readonly a b
at_by env line _ a _ b = Err WrongType

unfoldable pub at_values : Env → ℕ → Option Expr → Option Expr → Result Operand Rule
at_values env line (Some a) (Some b) = at_by env line (out-Ty a.ty) a (out-Ty b.ty) b
at_values env line _ _ = Err WrongType

-- an element of an array that is a place
unfoldable pub element : ℕ → Place → Bool → Ty → Option Expr → Result Operand Rule
element line p readonly of None = Err WrongType
element line p readonly of (Some i) =
    if is_integer i.ty then Ok (o.Place (placed line of (pk.Element p i)) readonly) else Err WrongType

abbrev pub indexed_by : Env → ℕ → Place → Bool → Ty-F Ty → Option Expr → Result Operand Rule
indexed_by env line p readonly (Ty-F.Array of count) i = element line p readonly of i
indexed_by env line p readonly t i = at_values env line (value (o.Place p readonly)) i

unfoldable pub indexed : Env → ℕ → Operand → Option Expr → Result Operand Rule
indexed env line (o.Place p readonly) i = indexed_by env line p readonly (out-Ty p.ty) i
indexed env line a i = at_values env line (value a) i

-- ---- members

-- const where the struct or the member is
abbrev pub member_place : Env → ℕ → Place → Bool → ℕ → Found → Operand
member_place env line p readonly tag m =
    o.Place (placed line m.ty (pk.Member p tag m.number)) (readonly || is_const_member env tag m.number)

abbrev pub member_by : Env → ℕ → Place → Bool → ℕ → Option Found → Result Operand Rule
member_by env line p readonly tag None = Err Unknown
member_by env line p readonly tag (Some m) = Ok (member_place env line p readonly tag m)

-- a struct that is not complete has no members yet
abbrev pub member_in : Env → ℕ → List ℕ → Place → Bool → Ty-F Ty → Result Operand Rule
member_in env line name p readonly (Ty-F.Struct tag) =
    member_by env line p readonly tag (member_from 0 name (members_of env.structs tag))
member_in env line name p readonly _ = Err WrongType

unfoldable pub member : Env → ℕ → List ℕ → Operand → Result Operand Rule
member env line name (o.Place p readonly) = member_in env line name p readonly (out-Ty p.ty)
member env line name _ = Err WrongType

abbrev pub arrow_by : Env → ℕ → List ℕ → Expr → Ty-F Ty → Result Operand Rule
arrow_by env line name e (Ty-F.Pointer to readonly) =
    member_in env line name (placed line to (pk.Deref e)) readonly (out-Ty to)
arrow_by env line name e _ = Err WrongType

unfoldable pub arrow : Env → ℕ → List ℕ → Option Expr → Result Operand Rule
arrow env line name None = Err WrongType
arrow env line name (Some e) = arrow_by env line name e (out-Ty e.ty)

-- ---- `*` and `&`

abbrev pub deref_by : ℕ → Expr → Ty-F Ty → Result Operand Rule
deref_by line e (Ty-F.Pointer to readonly) = Ok (o.Place (placed line to (pk.Deref e)) readonly)
deref_by line e _ = Err WrongType

unfoldable pub deref : ℕ → Option Expr → Result Operand Rule
deref line None = Err WrongType
deref line (Some e) = deref_by line e (out-Ty e.ty)

abbrev pub address_by : ℕ → Place → Bool → Ty-F Ty → Result Expr Rule
address_by line p readonly (Ty-F.Array of count) = Err WrongType
address_by line p readonly _ = Ok (typed line (ty.Pointer p.ty readonly) (k.Address p))

-- what a value breaks where a place should be: `void` is outside the rules, any other value is no place
abbrev pub no_place : Bool → Rule
no_place fits = if fits then NotPlace else WrongType

unfoldable pub address : ℕ → Operand → Result Expr Rule
address line (o.Place p readonly) = address_by line p readonly (out-Ty p.ty)
address line (o.Value e) = Err (no_place (is_scalar e.ty))
address line _ = Err WrongType

-- ---- `=`

abbrev pub unless_const : Bool → Expr → Result Expr Rule
unless_const readonly e = if readonly then Err ConstWrite else Ok e

abbrev pub stored : Env → ℕ → Place → Bool → Option Expr → Result Expr Rule
stored env line p readonly None = Err WrongType
stored env line p readonly (Some v) = unless_const readonly (typed line p.ty (k.Assign p v (is_marked env p)))

abbrev pub assigned_by : Env → ℕ → Place → Bool → Ty-F Ty → Expr → Result Expr Rule
assigned_by env line p readonly (Ty-F.Array of count) e = Err (no_place (is_scalar e.ty))
assigned_by env line p readonly t e = stored env line p readonly (converted p.ty e)

abbrev pub is_there : Option Expr → Bool
is_there None = false
is_there (Some v) = true

unfoldable pub assigned : Env → ℕ → Operand → Option Expr → Result Expr Rule
assigned env line (o.Place p readonly) (Some e) = assigned_by env line p readonly (out-Ty p.ty) e
assigned env line (o.Value l) (Some e) = Err (no_place (is_there (converted l.ty e)))
assigned env line _ _ = Err WrongType

-- ---- `op=`

-- the types that it takes: two integers, or with `+` and `-` a pointer and an integer
abbrev pub updates_layer : BinaryOp → Ty-F Ty → Ty-F Ty → Bool
updates_layer op (Ty-F.Num own) (Ty-F.Num by) = if is_comparison op then false else true
updates_layer op (Ty-F.Pointer to readonly) (Ty-F.Num by) = takes_pointer_integer op
updates_layer op _ _ = false

unfoldable pub updates : BinaryOp → Ty → Ty → Bool
updates op own by = updates_layer op (out-Ty own) (out-Ty by)

-- the value is converted to the type in which the operator computes; `old` says that the old value is the result
abbrev pub integer_update : Env → BinaryOp → ℕ → Bool → Place → IntType → IntType → Expr → Expr
integer_update env op line old p own by v =
    typed line p.ty (k.Update op (Some (computed_in op own by)) p (to_int by (right_in op own by) v) old (is_marked env p))

abbrev pub pointer_update : Env → BinaryOp → ℕ → Bool → Place → Expr → Expr
pointer_update env op line old p v = typed line p.ty (k.Update op None p v old (is_marked env p))

abbrev pub then_unless_const : Bool → Result Expr Rule → Result Expr Rule
then_unless_const readonly (Err rule) = Err rule
then_unless_const readonly (Ok e) = unless_const readonly e

abbrev pub updated_by : Env → BinaryOp → ℕ → Bool → Place → Bool → Ty-F Ty → Ty-F Ty → Expr → Result Expr Rule
updated_by env op line old p readonly (Ty-F.Num own) (Ty-F.Num by) v =
    unless_const readonly (integer_update env op line old p own by v)
updated_by env op line old p readonly (Ty-F.Pointer to r) (Ty-F.Num by) v =
    then_unless_const readonly (on_complete env to (pointer_update env op line old p v))
updated_by env op line old p readonly _ _ v = Err WrongType

abbrev pub update_place : Env → BinaryOp → ℕ → Bool → Place → Bool → Ty-F Ty → Expr → Result Expr Rule
update_place env op line old p readonly (Ty-F.Array of count) v = Err (no_place (is_scalar v.ty))
update_place env op line old p readonly t v =
    if updates op p.ty v.ty then updated_by env op line old p readonly t (out-Ty v.ty) v else Err WrongType

unfoldable pub updated : Env → BinaryOp → ℕ → Bool → Operand → Option Expr → Result Expr Rule
updated env op line old (o.Place p readonly) (Some v) = update_place env op line old p readonly (out-Ty p.ty) v
updated env op line old (o.Value l) (Some v) = Err (no_place (updates op l.ty v.ty))
updated env op line old _ _ = Err WrongType

-- ---- `++` and `--`: an update by 1, a constant of the type in which it computes

abbrev pub step_type : Ty-F Ty → IntType
step_type (Ty-F.Num own) = balanced own Int
step_type _ = Int

abbrev pub one : ℕ → Ty → Expr
one line t = typed line (ty.Num (step_type (out-Ty t))) (k.Constant (pos 1))

abbrev pub operand_type : Operand → Option Ty
operand_type (o.Value e) = Some e.ty
operand_type (o.Place p readonly) = Some p.ty
operand_type _ = None

abbrev pub one_for : ℕ → Option Ty → Option Expr
one_for line None = None
one_for line (Some t) = Some (one line t)

unfoldable pub stepped : Env → BinaryOp → ℕ → Bool → Operand → Result Expr Rule
stepped env op line old a = updated env op line old a (one_for line (operand_type a))
