-- What a declarator declares (C99 6.7.5): its type, whether it is const, and the rules of an object.
use Rattle.std.specs.Prelude.{ℕ, if◌then◌else◌, nat_lt, List, [], ◌∷◌, Option, Some, None, Result, Ok, Err}
use Rattle.c_tree.specs.declared.expression.Expr.{Expr as Source}
use Rattle.c_tree.specs.declared.qualified.Spec.{Spec}
use Rattle.c_tree.specs.declared.qualified.Qual.{Qual}
use Rattle.core_tree.specs.declared.types.Ty.{Ty}
use Rattle.core_tree.specs.declared.expressions.Expr.{Expr}
use Rattle.core_tree.specs.Layout.{stride}
use Rattle.c_typing.specs.declared.fault.Rule.{Rule}
use Rattle.c_typing.specs.declared.fault.Rule.TheVariants.{WrongType, Incomplete, TooBig}
use Rattle.c_typing.specs.declared.environment.Env.{Env}
use Rattle.c_typing.specs.Outcome.{Outcome, ◌>>=◌, at, broken}
use Rattle.c_typing.specs.Scopes.{is_sized}
use Rattle.c_typing.specs.Values.{value, converted}
use Rattle.c_typing.specs.TypeNames.{Qualified, base_type, qualified, pointed, arrays, array_size, constant_of}
use Rattle.c_typing.specs.Expressions.{means}

-- ---- expressions in declarations and statements

-- the value of what an expression stands for; none where that has none
abbrev pub value_of : Env → Source → Outcome (Option Expr)
value_of env e = means env e >>= λ x. Ok (value x)

-- a value in a type, as if by assignment; none where it does not convert
abbrev pub converted_value : Ty → Option Expr → Option Expr
converted_value t None = None
converted_value t (Some e) = converted t e

-- ---- types

-- the number that an expression says where the size of an array stands, judged at its own line
abbrev pub size : Env → Source → Outcome ℕ
size env e = value_of env e >>= λ v. at e.line (array_size (constant_of v))

-- those of all, in the order of the text
abbrev pub sizes : Env → List Source → Outcome (List ℕ)
sizes env [] = Ok []
sizes env (e ∷ more) = size env e >>= λ n. sizes env more >>= λ ns. Ok (n ∷ ns)

-- the type that a declaration begins with
abbrev pub base_of : Env → Spec → Result Qualified Rule
base_of env sp = qualified sp [] (base_type env sp.base)

abbrev pub in_arrays : Qualified → List ℕ → Qualified
in_arrays t counts = record { ty = arrays t.ty counts; readonly = t.readonly }

-- the type that a declarator makes of it: an unknown tag counts before the sizes
abbrev pub declared_type : Env → ℕ → Result Qualified Rule → List (List Qual) → List Source → Outcome Qualified
declared_type env line base stars bounds =
    at line base >>= λ t. sizes env bounds >>= λ counts. Ok (in_arrays (pointed t stars) counts)

-- ---- objects

-- the rule that an object of a type breaks: it is complete and without `void`, and has at most 16,383 bytes
abbrev pub object_rule : Env → Ty → Option Rule
object_rule env t =
    if is_sized env t then (if nat_lt 16383 (stride env.structs t) then Some TooBig else None) else Some Incomplete

-- what a declarator is, given the rule that its object breaks and what its initialiser comes to. The declarator's own
-- rules count before a fault inside the initialiser. Of its rules the least counts: that the initialiser does not
-- convert, then that of the object, then that the initialiser is not constant
abbrev pub settled : {A : Type 0} → ℕ → Option Rule → Outcome (Result A Rule) → Outcome A
settled line None (Err f) = Err f
settled line None (Ok made) = at line made
settled line (Some rule) (Ok (Err WrongType)) = broken WrongType line
settled line (Some rule) _ = broken rule line
