-- What a function is declared as, and its body, as the calls answer them.
use Rattle.std.specs.Prelude.{◌≡◌, ℕ, false, take, List, Option, Some, None, Result, Ok, Err}
use Rattle.c_tree.specs.declared.expression.Expr.{Expr as Source}
use Rattle.c_tree.specs.declared.statements.Compound.{Compound}
use Rattle.c_tree.specs.declared.unit.Param.{Param}
use Rattle.c_tree.specs.declared.unit.Function.{Function as SourceFunction}
use Rattle.core_tree.specs.declared.types.Ty.TheVariants as ty
use Rattle.c_typing.specs.declared.fault.Stop.{Stop}
use Rattle.c_typing.specs.declared.fault.Stop.TheVariants.{Broken, NoMemory}
use Rattle.c_typing.specs.declared.environment.Env.{Env}
use Rattle.c_typing.specs.declared.environment.What.{What}
use Rattle.c_typing.specs.declared.environment.What.TheVariants as what
use Rattle.c_typing.specs.Outcome.{Outcome, ◌>>=◌}
use Rattle.c_typing.specs.TypeNames.{Qualified}
use Rattle.c_checking.specs.declared.draft.Draft.{Draft}
use Rattle.c_checking.specs.declared.draft.Parameter.{Parameter}
use Rattle.c_checking.specs.Declarators.{size}
use Rattle.c_checking.specs.Functions.{parameters, enter_parameters, entering, left, types_of, with_body, declared, signature}
use Rattle.c_checking.specs.Functions as spec
use Rattle.c_checking.specs.Statements.{compound}
use Rattle.c_functions.specs.declared.heads.Head.{Head}
use Rattle.c_functions.specs.declared.bodies.Body.{Body}

-- ---- parameters

-- the number of elements that stands in the first pair of brackets
abbrev pub first_count : Env → Option (Option Source) → Outcome (Option ℕ)
first_count env (Some (Some e)) = size env e >>= λ n. Ok (Some n)
first_count env _ = Ok None

-- a pointer to its element, where there is a first pair of brackets
abbrev pub turned : Option (Option Source) → Qualified → Qualified
turned None t = t
turned (Some bound) t = record { ty = ty.Pointer t.ty t.readonly; readonly = false }

-- the parameters of a function, and what is declared behind them
abbrev pub walked : Env → ℕ → List Param → Outcome (List Parameter × Env)
walked env line ps = parameters env line ps >>= λ xs. Ok (xs, enter_parameters xs env)

-- ---- heads

abbrev pub shown : Head → spec.Head
shown h = record { result = h.result; params = h.params }

-- what a function answers that reads the head of a function, unless memory runs out
abbrev pub HasHead : Outcome spec.Head → Result Head Stop → Type 0
HasHead outcome (Ok h) = outcome ≡ Ok (shown h)
HasHead outcome (Err (Broken f)) = outcome ≡ Err f
HasHead outcome (Err NoMemory) = Unit {0}

-- names, locals and scope are taken back
abbrev pub back : ℕ → ℕ → ℕ → Env → Env
back names locals start env = record env { names = take names env.names; locals = take locals env.locals; start = start }

-- the place of a function that is declared already
abbrev pub place_of : Option What → Option ℕ
place_of (Some (what.Function place)) = Some place
place_of _ = None

-- ---- functions that break no rule

-- it is declared before its body is walked, so that it may call itself
abbrev pub accepted : List (List ℕ) → SourceFunction → spec.Head → Draft → Outcome Draft
accepted definitions f h d = with_body f h d (declared d.env f.name (signature definitions d.env f h)) f.body

-- ---- bodies

-- the statements of a body, and the types of its parameters and locals
abbrev pub body_of : spec.Head → Compound → Env → Outcome (Body × Env)
body_of h body env =
    compound body (entering h env) >>= λ p.
    Ok (record { statements = p.0; objects = p.1.locals }, left env p.1)
