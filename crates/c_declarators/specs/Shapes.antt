-- What a function answers that makes the type of a declarator, unless memory runs out.
use Rattle.std.specs.Prelude.{◌≡◌, List, Result, Ok, Err}
use Rattle.c_tree.specs.declared.expression.Expr.{Expr as Source}
use Rattle.c_tree.specs.declared.qualified.Qual.{Qual}
use Rattle.c_typing.specs.declared.fault.Stop.{Stop}
use Rattle.c_typing.specs.declared.fault.Stop.TheVariants.{Broken, NoMemory}
use Rattle.c_typing.specs.declared.environment.Env.{Env}
use Rattle.c_typing.specs.Outcome.{Outcome, ◌>>=◌}
use Rattle.c_typing.specs.TypeNames.{Qualified, pointed}
use Rattle.c_declarators.specs.declared.declarators.ObjectType.{ObjectType}
use Rattle.c_checking.specs.Declarators.{sizes, in_arrays}

-- a type, and whether what has it is const
abbrev pub qualified : ObjectType → Qualified
qualified t = record { ty = t.ty; readonly = t.readonly }

abbrev pub HasType : Outcome Qualified → Result ObjectType Stop → Type 0
HasType outcome (Ok t) = outcome ≡ Ok (qualified t)
HasType outcome (Err (Broken f)) = outcome ≡ Err f
HasType outcome (Err NoMemory) = Unit {0}

-- the type that stars and sizes make of another
abbrev pub shaped : Env → Qualified → List (List Qual) → List Source → Outcome Qualified
shaped env t stars bounds = sizes env bounds >>= λ counts. Ok (in_arrays (pointed t stars) counts)
