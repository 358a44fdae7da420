-- What the parts of an initialiser come to, as the calls answer them.
use Rattle.std.specs.Prelude.{◌≡◌, ℕ, List, [], Option, Some, None, Ok, Err}
use Rattle.c_tree.specs.declared.expression.Expr.{Expr as Source}
use Rattle.core_tree.specs.declared.types.Ty.{Ty}
use Rattle.core_tree.specs.declared.types.Struct.{Struct}
use Rattle.core_tree.specs.declared.program.Initial.{Initial as Value}
use Rattle.core_tree.specs.Layout.{layout}
use Rattle.core_tree.specs.declared.expressions.Expr.{Expr}
use Rattle.c_typing.specs.declared.fault.Rule.{Rule}
use Rattle.c_typing.specs.declared.fault.Rule.TheVariants.{WrongType}
use Rattle.c_typing.specs.declared.fault.Stop.{Stop}
use Rattle.c_typing.specs.declared.fault.Stop.TheVariants.{Broken, NoMemory}
use Rattle.c_typing.specs.declared.environment.Env.{Env}
use Rattle.c_typing.specs.Outcome.{Outcome, ◌>>=◌, broken}
use Rattle.c_checking.specs.Declarators.{value_of, converted_value}
use Rattle.c_checking.specs.Constants.{Address}
use Rattle.c_checking.specs.Initialisers.{initials}
use Rattle.c_initialisers.specs.declared.constants.FoundAddress.{FoundAddress}

abbrev pub address_of : Option FoundAddress → Option Address
address_of None = None
address_of (Some a) = Some (record { global = a.global; offset = a.offset })

-- the value of an expression in a type; none where it does not convert
abbrev pub assigned : Env → Ty → Source → Outcome (Option Expr)
assigned env t e = value_of env e >>= λ v. Ok (converted_value t v)

-- what a declarator is initialised with by an expression, given the rule that its object breaks
abbrev pub settled_value : ℕ → Option Rule → Outcome (Option Expr) → Outcome Expr
settled_value line rule (Ok None) = broken WrongType line
settled_value line (Some rule) _ = broken rule line
settled_value line None (Ok (Some e)) = Ok e
settled_value line None (Err f) = Err f

-- a zero for each scalar of a type
abbrev pub zeros : List Struct → Ty → List Value
zeros structs t = initials structs (layout structs t).slots []

-- what a fault inside an initialiser comes to, given the rule that the object breaks
abbrev pub Told : ℕ → Option Rule → Stop → Stop → Type 0
Told line rule NoMemory told = told ≡ NoMemory
Told line None (Broken f) told = told ≡ Broken f
Told line (Some rule) (Broken f) told = told ≡ Broken (record { rule = rule; line = line })
