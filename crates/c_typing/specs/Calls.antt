-- What names and constants stand for, and calls (C99 6.5.1 and 6.5.2.2), or the least rule that is broken.
use Rattle.std.specs.Prelude.{Bool, true, false, ◌||◌, ◌==◌, ℕ, if◌then◌else◌, nat_lt, List, [], ◌∷◌, map, length, drop, slice_get, bytes_eq, codes, Option, Some, None, Result, Ok, Err, ℤ, pos, negsuc}
use Rattle.base16.specs.declared.integer.IntType.TheVariants.{Int, UInt}
use Rattle.core_tree.specs.declared.types.Ty.{Ty}
use Rattle.core_tree.specs.declared.types.Ty.TheVariants as ty
use Rattle.core_tree.specs.declared.expressions.Expr.{Expr}
use Rattle.core_tree.specs.declared.expressions.ExprKind.TheVariants as k
use Rattle.core_tree.specs.declared.expressions.PlaceKind.TheVariants as pk
use Rattle.core_tree.specs.Rules.{is_scalar}
use Rattle.c_rules.specs.Constants.{value as constant_value}
use Rattle.c_typing.specs.declared.fault.Rule.{Rule}
use Rattle.c_typing.specs.declared.fault.Rule.TheVariants.{Unknown, WrongType, WrongArgs, NotConstant}
use Rattle.c_typing.specs.declared.operand.Operand.{Operand}
use Rattle.c_typing.specs.declared.operand.Operand.TheVariants as o
use Rattle.c_typing.specs.declared.operand.Builtin.{Builtin}
use Rattle.c_typing.specs.declared.operand.Builtin.TheVariants as builtin
use Rattle.c_typing.specs.declared.environment.Env.{Env}
use Rattle.c_typing.specs.declared.environment.Signature.{Signature}
use Rattle.c_typing.specs.declared.environment.What.{What}
use Rattle.c_typing.specs.declared.environment.What.TheVariants as w
use Rattle.c_typing.specs.Values.{typed, placed, converted, value}

-- ---- names

-- the functions that every source has
abbrev pub builtin_named : List ℕ → Option Builtin
builtin_named name =
    if bytes_eq name (codes "sense") then Some builtin.Sense
    else (if bytes_eq name (codes "emit") then Some builtin.Emit
    else (if bytes_eq name (codes "checkpoint") then Some builtin.Checkpoint else None))

abbrev pub or_builtin : Option Builtin → Result Operand Rule
or_builtin None = Err Unknown
or_builtin (Some b) = Ok (o.Builtin b)

-- a declaration of the source hides a function that every source has
unfoldable pub named : ℕ → List ℕ → Option What → Result Operand Rule
named line name None = or_builtin (builtin_named name)
named line name (Some (w.Local number t readonly)) = Ok (o.Place (placed line t (pk.Local number)) readonly)
named line name (Some (w.Global number t readonly)) = Ok (o.Place (placed line t (pk.Global number)) readonly)
named line name (Some (w.Function place)) = Ok (o.Function place)

-- ---- constants

-- an `int` where it fits and has no `u`, and else an `unsigned int`
abbrev pub number : ℕ → ℕ → Bool → Operand
number line n unsigned = o.Value (typed line (ty.Num (if unsigned || nat_lt 32767 n then UInt else Int)) (k.Constant (pos n)))

abbrev pub character : ℕ → ℕ → Operand
character line c = o.Value (typed line (ty.Num Int) (k.Constant (pos c)))

-- ---- arguments

-- an argument in the type of its parameter; one with no parameter for it has to be some scalar
unfoldable pub accepted : Option Ty → Option Expr → Option Expr
accepted t None = None
accepted None (Some e) = if is_scalar e.ty then Some e else None
accepted (Some t) (Some e) = converted t e

abbrev pub and_these : Option Expr → Option (List Expr) → Option (List Expr)
and_these (Some e) (Some es) = Some (e ∷ es)
and_these _ _ = None

-- the arguments in the types of the parameters; none where one is not accepted
abbrev pub passed : List Ty → List Operand → Option (List Expr)
passed params [] = Some []
passed params (x ∷ xs) = and_these (accepted (slice_get params 0) (value x)) (passed (drop 1 params) xs)

-- ---- calls: the arguments convert, then there are as many as parameters

abbrev pub call_of : ℕ → Signature → Option (List Expr) → Result Operand Rule
call_of line s None = Err WrongType
call_of line s (Some args) =
    if length args == length s.params then Ok (o.Value (typed line s.result (k.Call s.number args))) else Err WrongArgs

abbrev pub function_call : ℕ → Option Signature → List Operand → Result Operand Rule
function_call line None xs = Err WrongType
function_call line (Some s) xs = call_of line s (passed s.params xs)

-- a channel is a constant from 0 to 15
abbrev pub channel : ℕ → Option ℤ → Result Operand Rule
channel line None = Err NotConstant
channel line (Some (pos n)) = if nat_lt n 16 then Ok (o.Value (typed line (ty.Num UInt) (k.Sense n))) else Err WrongArgs
channel line (Some (negsuc n)) = Err WrongArgs

abbrev pub sensed : ℕ → Option (List Expr) → Result Operand Rule
sensed line None = Err WrongType
sensed line (Some (e ∷ [])) = channel line (constant_value e)
sensed line (Some _) = Err WrongArgs

abbrev pub emitted : ℕ → Option (List Expr) → Result Operand Rule
emitted line None = Err WrongType
emitted line (Some (e ∷ [])) = Ok (o.Value (typed line ty.Void (k.Emit e)))
emitted line (Some _) = Err WrongArgs

abbrev pub checkpointed : ℕ → Option (List Expr) → Result Operand Rule
checkpointed line None = Err WrongType
checkpointed line (Some []) = Ok (o.Value (typed line ty.Void k.Checkpoint))
checkpointed line (Some _) = Err WrongArgs

-- the channel of `sense` is any scalar at first, the value of `emit` becomes an `unsigned int`
abbrev pub builtin_call : ℕ → Builtin → List Operand → Result Operand Rule
builtin_call line builtin.Sense xs = sensed line (passed [] xs)
builtin_call line builtin.Emit xs = emitted line (passed (ty.Num UInt ∷ []) xs)
builtin_call line builtin.Checkpoint xs = checkpointed line (passed [] xs)

-- what is called has to be a function
abbrev pub called : Env → ℕ → Operand → List Operand → Result Operand Rule
called env line (o.Function place) xs = function_call line (slice_get env.functions place) xs
called env line (o.Builtin b) xs = builtin_call line b xs
called env line _ xs = Err WrongType
