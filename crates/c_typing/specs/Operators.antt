-- What operators make of values (C99 6.5.3.3, 6.5.5 to 6.5.15 and 6.5.17 in this profile), or the least rule that is
-- broken.
use Rattle.std.specs.Prelude.{Bool, true, false, ◌&&◌, ◌||◌, ℕ, if◌then◌else◌, Option, Some, None, Result, Ok, Err}
use Rattle.base16.specs.declared.integer.IntType.{IntType}
use Rattle.base16.specs.declared.integer.IntType.TheVariants.{Int}
use Rattle.base16.specs.declared.operator.UnaryOp.{UnaryOp}
use Rattle.base16.specs.declared.operator.UnaryOp.TheVariants as un
use Rattle.base16.specs.declared.operator.BinaryOp.{BinaryOp}
use Rattle.base16.specs.declared.operator.BinaryOp.TheVariants as op
use Rattle.core_tree.specs.declared.types.Ty.{Ty, out-Ty}
use Rattle.core_tree.specs.declared.types.Ty.TheVariants as ty
use Rattle.core_tree.specs.declared.types.Ty.TheOpen.{Ty-F}
use Rattle.core_tree.specs.declared.expressions.Expr.{Expr}
use Rattle.core_tree.specs.declared.expressions.ExprKind.{ExprKind}
use Rattle.core_tree.specs.declared.expressions.ExprKind.TheVariants as k
use Rattle.core_tree.specs.Types.{same}
use Rattle.core_tree.specs.Layout.{int_type_of}
use Rattle.core_tree.specs.Rules.{promoted, balanced, is_scalar, is_comparison, is_equality, takes_one, takes_pointer_integer, takes_integer_pointer, takes_pointers, computed_in, right_in, result_in}
use Rattle.c_typing.specs.declared.fault.Rule.{Rule}
use Rattle.c_typing.specs.declared.fault.Rule.TheVariants.{WrongType, Incomplete}
use Rattle.c_typing.specs.declared.environment.Env.{Env}
use Rattle.c_typing.specs.Scopes.{is_complete}
use Rattle.c_typing.specs.Values.{typed, to_int, null, converted}

-- ---- `+ - ~ !`

-- in its promoted type
abbrev pub arithmetic : UnaryOp → ℕ → IntType → Expr → Expr
arithmetic op line t e = typed line (ty.Num (promoted t)) (k.Unary op (to_int t (promoted t) e))

-- `!` converts nothing
abbrev pub unary_of : UnaryOp → ℕ → Expr → Expr
unary_of un.Not line e = typed line (ty.Num Int) (k.Unary un.Not e)
unary_of op line e = arithmetic op line (int_type_of e.ty) e

unfoldable pub unary : UnaryOp → ℕ → Option Expr → Result Expr Rule
unary op line None = Err WrongType
unary op line (Some e) = if takes_one op e.ty then Ok (unary_of op line e) else Err WrongType

-- ---- binary operators

-- of two integers
unfoldable pub integers : BinaryOp → ℕ → IntType → Expr → IntType → Expr → Expr
integers op line x a y b =
    typed line (ty.Num (result_in op (computed_in op x y)))
    (k.Binary op (computed_in op x y) (to_int x (computed_in op x y) a) (to_int y (right_in op x y) b))

-- arithmetic on pointers to a type
abbrev pub on_complete : Env → Ty → Expr → Result Expr Rule
on_complete env to e = if is_complete env to then Ok e else Err Incomplete

abbrev pub is_minus : BinaryOp → Bool
is_minus op.Sub = true
is_minus _ = false

abbrev pub compared : BinaryOp → ℕ → Expr → Expr → Expr
compared op line a b = typed line (ty.Num Int) (k.ComparePointers op a b)

-- a pointer beside what should be a constant 0
abbrev pub with_null : (Expr → Expr) → Option Expr → Result Expr Rule
with_null make None = Err WrongType
with_null make (Some e) = Ok (make e)

unfoldable pub pointer_integer : Env → BinaryOp → ℕ → Ty → Expr → Expr → Result Expr Rule
pointer_integer env op line to a b =
    if takes_pointer_integer op then on_complete env to (typed line a.ty (k.PointerPlus (is_minus op) a b))
    else (if is_equality op then with_null (compared op line a) (null a.ty b) else Err WrongType)

unfoldable pub integer_pointer : Env → BinaryOp → ℕ → Ty → Expr → Expr → Result Expr Rule
integer_pointer env op line to a b =
    if takes_integer_pointer op then on_complete env to (typed line b.ty (k.PointerPlus false a b))
    else (if is_equality op then with_null (λ e. compared op line e b) (null b.ty a) else Err WrongType)

unfoldable pub pointers : Env → BinaryOp → ℕ → Ty → Expr → Expr → Result Expr Rule
pointers env op line to a b =
    if is_comparison op then Ok (compared op line a b)
    else (if takes_pointers op then on_complete env to (typed line (ty.Num Int) (k.Difference a b)) else Err WrongType)

abbrev pub joined : Env → BinaryOp → ℕ → Ty-F Ty → Expr → Ty-F Ty → Expr → Result Expr Rule
joined env op line (Ty-F.Num x) a (Ty-F.Num y) b = Ok (integers op line x a y b)
joined env op line (Ty-F.Pointer to r) a (Ty-F.Num y) b = pointer_integer env op line to a b
joined env op line (Ty-F.Num x) a (Ty-F.Pointer to r) b = integer_pointer env op line to a b
joined env op line (Ty-F.Pointer to r) a (Ty-F.Pointer other s) b =
    if same to other then pointers env op line to a b else Err WrongType
joined env op line _ a _ b = Err WrongType

unfoldable pub binary : Env → BinaryOp → ℕ → Option Expr → Option Expr → Result Expr Rule
binary env op line (Some a) (Some b) = joined env op line (out-Ty a.ty) a (out-Ty b.ty) b
binary env op line _ _ = Err WrongType

-- ---- `&& ||`

unfoldable pub logical : (Expr → Expr → ExprKind) → ℕ → Option Expr → Option Expr → Result Expr Rule
logical join line (Some a) (Some b) =
    if is_scalar a.ty && is_scalar b.ty then Ok (typed line (ty.Num Int) (join a b)) else Err WrongType
logical join line _ _ = Err WrongType

-- ---- `?:`: both integers, or pointers to one type, or a pointer and a constant 0

abbrev pub chosen : ℕ → Ty → Expr → Option Expr → Option Expr → Result Expr Rule
chosen line t test (Some a) (Some b) = Ok (typed line t (k.Conditional test a b))
chosen line t test _ _ = Err WrongType

abbrev pub branched : ℕ → Expr → Ty-F Ty → Expr → Ty-F Ty → Expr → Result Expr Rule
branched line test (Ty-F.Num x) a (Ty-F.Num y) b =
    chosen line (ty.Num (balanced x y)) test (Some (to_int x (balanced x y) a)) (Some (to_int y (balanced x y) b))
branched line test (Ty-F.Pointer to r) a (Ty-F.Pointer other s) b =
    chosen line (ty.Pointer to (r || s)) test (converted (ty.Pointer to (r || s)) a) (converted (ty.Pointer to (r || s)) b)
branched line test (Ty-F.Pointer to r) a (Ty-F.Num y) b = chosen line a.ty test (Some a) (null a.ty b)
branched line test (Ty-F.Num x) a (Ty-F.Pointer to r) b = chosen line b.ty test (null b.ty a) (Some b)
branched line test _ a _ b = Err WrongType

unfoldable pub conditional : ℕ → Option Expr → Option Expr → Option Expr → Result Expr Rule
conditional line (Some test) (Some a) (Some b) =
    if is_scalar test.ty then branched line test (out-Ty a.ty) a (out-Ty b.ty) b else Err WrongType
conditional line _ _ _ = Err WrongType

-- ---- the comma: its left side may be `void`

unfoldable pub sequence : ℕ → Option Expr → Option Expr → Result Expr Rule
sequence line (Some a) (Some b) = if is_scalar b.ty then Ok (typed line b.ty (k.Comma a b)) else Err WrongType
sequence line _ _ = Err WrongType
