-- What is declared at a point of a source, and what the program has for it in the end.
use Rattle.std.specs.Prelude.{◌≡◌, ℕ, ◌≤◌, Bool, true, false, List, ◌++◌, length, slice_get, Some, None, Ok}
use Rattle.core_tree.specs.declared.types.Ty.{Ty, out-Ty}
use Rattle.core_tree.specs.declared.program.Core.{Core}
use Rattle.core_tree.specs.declared.program.Global.{Global}
use Rattle.core_tree.specs.declared.program.Function.{Function}
use Rattle.core_tree.specs.Lawful.{Scope}
use Rattle.core_tree.specs.LawfulCore.{Every, Text, IsObject, IsSmall, result_layer}
use Rattle.c_typing.specs.declared.environment.Env.{Env}
use Rattle.c_typing.specs.declared.environment.Named.{Named}
use Rattle.c_typing.specs.declared.environment.Signature.{Signature}
use Rattle.c_typing.specs.declared.environment.What.{What}
use Rattle.c_typing.specs.declared.environment.What.TheVariants as w
use Rattle.c_typing_laws.specs.Sound.{Agrees, AreDefined}
use Rattle.core_tree.specs.Rules.{is_scalar}
use Rattle.c_checking.specs.Walk.{Walk}
use Rattle.c_checking.specs.Functions.{Head, types_of}

-- ---- words

-- a list that another begins with
abbrev pub Begins : {A : Type 0} → List A → List A → Type 0
Begins {A = A} xs ys = (more : List A) × (ys ≡ xs ++ more)

-- ---- what is declared

-- a function that is declared is one of the program, with its parameters and its result
abbrev pub IsOneOf : Core → Signature → Type 0
IsOneOf core f =
    (g : Function) × (slice_get core.functions f.number ≡ Some g) × (g.params ≡ f.params) × (g.result ≡ f.result)

-- what a name stands for, where these are the functions that are declared and the parameters and locals so far: a local of
-- this type, a variable of the program of this type, or, if calls of that name are asked for, a function of the program
abbrev pub StandsAs : (List ℕ → Bool) → Core → List Signature → List Ty → List ℕ → What → Type 0
StandsAs calls core functions locals name (w.Local n t readonly) = slice_get locals n ≡ Some t
StandsAs calls core functions locals name (w.Global n t readonly) =
    (g : Global) × (slice_get core.globals n ≡ Some g) × (g.ty ≡ t)
StandsAs calls core functions locals name (w.Function place) =
    calls name ≡ true → (f : Signature) → slice_get functions place ≡ Some f → IsOneOf core f

abbrev pub Stands : (List ℕ → Bool) → Core → List Signature → List Ty → Named → Type 0
Stands calls core functions locals d = StandsAs calls core functions locals d.name d.what

-- what is declared at a point of a source stands for what is in the program
pub record Declared (calls : List ℕ → Bool) (core : Core) (env : Env) : Type 0 where
  -- the structs that are complete are its first ones
  pub structs : Begins env.structs core.structs
  pub names : Every (Stands calls core env.functions env.locals) env.names
  -- no block of annotations and no struct stands around it
  pub outside : env.inside ≡ false
  pub alone : env.defining ≡ None

-- what expressions see in a function of the program with these objects
abbrev pub plain_scope : Core → List Ty → Scope
plain_scope core objects = record { core = core; objects = objects; inside = false; annotated = false }

-- expressions may rest on what is declared
abbrev pub ExpressionsMayRest : (List ℕ → Bool) → Core → Env → List Ty → Type 0
ExpressionsMayRest calls core env objects =
    Declared calls core env → Begins env.locals objects
    → Agrees env (plain_scope core objects) × AreDefined calls env (plain_scope core objects)

-- ---- from one point of a function to a later one

-- an object of the program of at most 16,383 bytes
abbrev pub IsLocal : Core → Ty → Type 0
IsLocal core t = IsObject core t × IsSmall core t

-- names and locals are added behind those that there are, and nothing else changes
pub record Onward (core : Core) (env behind : Env) : Type 0 where
  pub structs : behind.structs ≡ env.structs
  pub const_members : behind.const_members ≡ env.const_members
  pub defining : behind.defining ≡ env.defining
  pub functions : behind.functions ≡ env.functions
  pub result : behind.result ≡ env.result
  pub inside : behind.inside ≡ env.inside
  pub start : behind.start ≡ env.start
  pub names : Begins env.names behind.names
  pub locals : (more : List Ty) × (behind.locals ≡ env.locals ++ more) × Every (IsLocal core) more

-- the text of a function at a point of it, where annotations are not checked yet
pub record IsText (core : Core) (env : Env) (x : Text) : Type 0 where
  pub program : x.scope.core ≡ core
  pub inside : x.scope.inside ≡ false
  pub early : x.scope.annotated ≡ false
  pub result : x.result ≡ env.result
  pub params : x.params ≤ length env.locals

-- a part of a function that breaks no rule leads to a later point, and is this in each text of the function
abbrev pub Leads : {A : Type 0} → (List ℕ → Bool) → Core → (Text → A → Type 0) → Walk A → Type 0
Leads {A = A} calls core P walk =
    (env behind : Env) (a : A) → Declared calls core env → walk env ≡ Ok (a, behind)
    → Declared calls core behind × Onward core env behind
    × ((x : Text) → IsText core env x → Begins behind.locals x.scope.objects → P x a)

-- what the head of a function is in the program: its parameters are integers or pointers, its result too or `void`
pub record HeadIs (core : Core) (h : Head) : Type 0 where
  pub params : Every (λ t. (is_scalar t ≡ true) × IsObject core t) (types_of h.params)
  pub result : result_layer core h.result (out-Ty h.result)

-- where `break` and `continue` have something to leave
abbrev pub Allows : Bool → Bool → Text → Type 0
Allows breaks continues x = (breaks ≡ true → x.breaks ≡ true) × (continues ≡ true → x.continues ≡ true)
