-- What the check accepts in a function is lawful in the program.
use Rattle.std.specs.Prelude.{◌≡◌, ℕ, Bool, true, false, List, [], is_some, Option, None, Ok, ℤ, Some}
use Rattle.base16.specs.declared.integer.IntType.{IntType}
use Rattle.c_tree.specs.declared.qualified.Spec.{Spec}
use Rattle.c_tree.specs.declared.declarations.Init.{Init}
use Rattle.c_tree.specs.declared.declarations.Initial.{Initial}
use Rattle.c_tree.specs.declared.statements.Compound.{Compound}
use Rattle.c_tree.specs.declared.unit.Function.{Function as SourceFunction}
use Rattle.core_tree.specs.declared.types.Ty.{Ty}
use Rattle.core_tree.specs.declared.statements.Init.{Init as Store}
use Rattle.core_tree.specs.declared.statements.Stmt.{Stmt}
use Rattle.core_tree.specs.declared.expressions.Expr.{Expr}
use Rattle.core_tree.specs.declared.types.Ty.TheVariants as ty
use Rattle.core_tree.specs.declared.program.Core.{Core}
use Rattle.core_tree.specs.Lawful.{Scope, IsExpr}
use Rattle.core_tree.specs.Rules.{is_value}
use Rattle.c_rules.specs.Constants.{value}
use Rattle.core_tree.specs.Layout.{layout}
use Rattle.core_tree.specs.LawfulCore.{Every, Text, struct_leaves, leaves_in, scalar_types, Initialised, IsDeclaration, IsStmt, AreStmts, IsFunction}
use Rattle.c_typing.specs.declared.environment.Env.{Env}
use Rattle.c_checking.specs.declared.draft.Parameter.{Parameter}
use Rattle.c_checking.specs.Declarators.{object_rule}
use Rattle.c_checking.specs.Initialisers.{stored}
use Rattle.c_checking.specs.Locals.{local}
use Rattle.c_checking.specs.Statements.{compound}
use Rattle.c_checking.specs.Functions.{Head, head, listed, function_rule, entering, function_of}
use Rattle.c_checking_laws.specs.Standing.{Begins, Declared, IsLocal, IsText, Leads, Allows, HeadIs}
use Rattle.c_checking_laws.specs.Fitting.{each_is, if_there, initial_fits, init_fits, compound_fits, param_fits}

-- a type that breaks no rule of objects is one of the program, small, and lies there as it does at its declarator
abbrev pub ObjectIsWhole : Core → Env → Ty → Type 0
ObjectIsWhole core env t =
    Begins env.structs core.structs → env.defining ≡ None → object_rule env t ≡ None
    → IsLocal core t × (layout core.structs t ≡ layout env.structs t)
    × (scalar_types core t ≡ leaves_in (struct_leaves [] env.structs) t)

-- the stores of an initialiser are those of its object
abbrev pub StoresAreLawful : (List ℕ → Bool) → Core → Env → Text → ℕ → Ty → Option Initial → List Store → Type 0
StoresAreLawful calls core env x line t i all =
    Declared calls core env → IsText core env x → Begins env.locals x.scope.objects
    → if_there (initial_fits calls) i ≡ true → stored env line t i ≡ Ok all → Initialised x.scope t all

-- a declarator of a block
abbrev pub DeclaratorIsLawful : (List ℕ → Bool) → Core → Spec → Init → Type 0
DeclaratorIsLawful calls core sp i =
    init_fits calls i ≡ true → Leads calls core (λ x s. IsStmt x s.kind × IsDeclaration s) (local sp i)

-- what stands in braces
abbrev pub BlockIsLawful : (List ℕ → Bool) → Core → Compound → Bool → Bool → Type 0
BlockIsLawful calls core body breaks continues =
    compound_fits calls body breaks continues ≡ true
    → Leads calls core (λ x all. Allows breaks continues x → AreStmts x all) (compound body)

-- the result and the parameters of a function
abbrev pub HeadIsLawful : Core → Env → SourceFunction → Head → Type 0
HeadIsLawful core env f h =
    Begins env.structs core.structs → env.defining ≡ None → each_is param_fits (listed f.params) ≡ true → head env f ≡ Ok h
    → function_rule env f h ≡ None → HeadIs core h

-- a function, where what is declared stands at its head
abbrev pub FunctionIsLawful : (List ℕ → Bool) → Core → Env → SourceFunction → Head → Compound → List Stmt → Env → Type 0
FunctionIsLawful calls core env f h body all behind =
    Declared calls core env → env.locals ≡ [] → HeadIs core h
    → Every (λ (p : Parameter). is_some p.name ≡ true) h.params → compound_fits calls body false false ≡ true
    → compound body (entering h env) ≡ Ok (all, behind) → IsFunction core false (function_of f h all behind.locals)

-- the value of a constant expression, as an initialiser has it
abbrev pub ConstantIsValue : Scope → Expr → IntType → ℤ → Type 0
ConstantIsValue s e t n = IsExpr s e (ty.Num t) → value e ≡ Some n → is_value t n ≡ true
