-- What the parts of a node are: the values of operands, arguments, and the sizes in the name of a type.
use Rattle.std.specs.Prelude.{ℕ, List, [], ◌∷◌, map, Option, Ok}
use Rattle.c_tree.specs.declared.expression.Expr.{Expr as Source}
use Rattle.core_tree.specs.declared.expressions.Expr.{Expr}
use Rattle.c_typing.specs.declared.operand.Operand.{Operand}
use Rattle.c_typing.specs.declared.environment.Env.{Env}
use Rattle.c_typing.specs.Outcome.{Outcome, ◌>>=◌, at}
use Rattle.c_typing.specs.Values.{value}
use Rattle.c_typing.specs.TypeNames.{array_size, as_size, constant_of}
use Rattle.c_typing.specs.Expressions.{in_order, means}

-- the value of what an expression stands for; none where that has none
abbrev pub means_value : Env → Source → Outcome (Option Expr)
means_value env e = means env e >>= λ x. Ok (value x)

-- what each of these stands for, up to the first fault
abbrev pub means_all : Env → List Source → Outcome (List Operand)
means_all env all = in_order (map (means env) all)

-- ---- sizes of arrays

-- an expression where the size of an array stands, judged at its own line
abbrev pub judged : Env → Source → Outcome Operand
judged env e = means env e >>= λ x. at e.line (as_size x)

abbrev pub judged_all : Env → List Source → Outcome (List Operand)
judged_all env all = in_order (map (judged env) all)

-- the number that it says
abbrev pub size : Env → Source → Outcome ℕ
size env e = means_value env e >>= λ v. at e.line (array_size (constant_of v))

-- the sizes of an array in the order of the text, up to the first fault
abbrev pub sizes : Env → List Source → Outcome (List ℕ)
sizes env [] = Ok []
sizes env (e ∷ more) = size env e >>= λ n. sizes env more >>= λ ns. Ok (n ∷ ns)
