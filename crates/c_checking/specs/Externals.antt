-- Structs and variables at file scope (C99 6.7.2.1 and 6.9.2).
use Rattle.std.specs.Prelude.{ℕ, Bool, true, false, ◌||◌, ◌&&◌, if◌then◌else◌, bytes_eq, length, map, List, [], ◌∷◌, ◌++◌, is_some, Option, Some, None, Result, Ok}
use Rattle.c_tree.specs.declared.qualified.Spec.{Spec}
use Rattle.c_tree.specs.declared.declarations.Declr.{Declr}
use Rattle.c_tree.specs.declared.declarations.Init.{Init}
use Rattle.c_tree.specs.declared.unit.Member.{Member as SourceMember}
use Rattle.c_tree.specs.declared.unit.Struct.{Struct as SourceStruct}
use Rattle.core_tree.specs.declared.types.Ty.{Ty}
use Rattle.core_tree.specs.declared.types.Ty.TheVariants as ty
use Rattle.c_typing.specs.declared.fault.Rule.{Rule}
use Rattle.c_typing.specs.declared.fault.Rule.TheVariants.{Twice, Incomplete}
use Rattle.c_typing.specs.declared.environment.Env.{Env}
use Rattle.c_typing.specs.declared.environment.What.TheVariants as what
use Rattle.c_typing.specs.Outcome.{Outcome, ◌>>=◌, broken}
use Rattle.c_typing.specs.Scopes.{tag_from, is_sized}
use Rattle.c_typing.specs.TypeNames.{Qualified}
use Rattle.c_typing.specs.Calls.{builtin_named}
use Rattle.c_checking.specs.declared.draft.Draft.{Draft}
use Rattle.c_checking.specs.Walk.{is_declared}
use Rattle.c_checking.specs.Declarators.{base_of, declared_type}
use Rattle.c_checking.specs.Initialisers.{begun}

-- ---- words

-- a part of a source at file scope, by what is declared behind it
abbrev pub Step : Type 0
Step = Draft → Outcome Draft

abbrev pub in_turn : List Step → Step
in_turn [] d = Ok d
in_turn (step ∷ more) d = step d >>= in_turn more

-- something that breaks a rule at a line, or nothing
abbrev pub unless : {A : Type 0} → ℕ → Option Rule → A → Outcome A
unless line None a = Ok a
unless line (Some rule) a = broken rule line

abbrev pub is_one_of : List (List ℕ) → List ℕ → Bool
is_one_of [] name = false
is_one_of (n ∷ more) name = bytes_eq n name || is_one_of more name

abbrev pub has_twice : List (List ℕ) → Bool
has_twice [] = false
has_twice (n ∷ more) = is_one_of more n || has_twice more

-- a name that no variable may have any more: one of file scope, or of a function that every source has
abbrev pub is_taken : Env → List ℕ → Bool
is_taken env name = is_declared env name || is_some (builtin_named name)

-- ---- variables

abbrev pub declare_global : List ℕ → ℕ → Qualified → Env → Env
declare_global name number t env = record env {
  names = env.names ++ record { name = name; what = what.Global number t.ty t.readonly } ∷ [];
}

abbrev pub entered_global : ℕ → List ℕ → Qualified → Draft → Outcome Env
entered_global line name t d =
    if is_taken d.env name then broken Twice line else Ok (declare_global name (length d.globals) t d.env)

-- a declarator: its name is in scope from its own initialiser on
unfoldable pub global : (Env → Result Qualified Rule) → Init → Step
global base i d =
    declared_type d.env i.line (base d.env) i.declr.stars i.declr.bounds >>= λ t.
    entered_global i.line i.declr.name t d >>= λ env.
    begun env i.line t.ty i.initial >>= λ init.
    Ok (record d {
      env = env;
      globals = d.globals ++ record {
        name = i.declr.name;
        ty = t.ty;
        lifetime = None;
        init = init;
        before = length d.functions;
        line = i.line;
      } ∷ [];
    })

abbrev pub globals : (Env → Result Qualified Rule) → List Init → Step
globals base inits = in_turn (map (global base) inits)

-- ---- structs

-- a member of a struct, and whether it is const
pub record Field : Type 0 where
  pub name : List ℕ
  pub ty : Ty
  pub readonly : Bool

abbrev pub field : Env → ℕ → Spec → Declr → Outcome Field
field env line sp d =
    declared_type env line (base_of env sp) d.stars d.bounds >>= λ t.
    Ok (record { name = d.name; ty = t.ty; readonly = t.readonly })

abbrev pub fields_of : Env → ℕ → Spec → List Declr → Outcome (List Field)
fields_of env line sp [] = Ok []
fields_of env line sp (d ∷ more) = field env line sp d >>= λ x. fields_of env line sp more >>= λ xs. Ok (x ∷ xs)

abbrev pub fields : Env → ℕ → List SourceMember → Outcome (List Field)
fields env line [] = Ok []
fields env line (m ∷ more) = fields_of env line m.spec m.declrs >>= λ xs. fields env line more >>= λ ys. Ok (xs ++ ys)

abbrev pub are_sized : Env → List Field → Bool
are_sized env [] = true
are_sized env (f ∷ more) = is_sized env f.ty && are_sized env more

-- the least rule that a struct breaks: its tag and the names of its members stand once, its members are objects
abbrev pub struct_rule : Env → List ℕ → List Field → Option Rule
struct_rule env tag fs =
    if is_some (tag_from 0 tag env.structs) || has_twice (map (λ (f : Field). f.name) fs) then Some Twice
    else (if are_sized env fs then None else Some Incomplete)

-- where the members of a struct stand, pointers to it are known
abbrev pub defining : List ℕ → Env → Env
defining tag env = record env { defining = Some tag }

abbrev pub completed : List ℕ → List Field → Env → Env
completed tag fs env = record env {
  structs = env.structs ++ record { name = tag; members = map (λ f. record { name = f.name; ty = f.ty }) fs } ∷ [];
  const_members = env.const_members ++ map (λ f. f.readonly) fs ∷ [];
}

abbrev pub checked_fields : Env → SourceStruct → Outcome (List Field)
checked_fields env s = fields env s.line s.members >>= λ fs. unless s.line (struct_rule env s.name fs) fs

unfoldable pub structure : SourceStruct → Step
structure s d = checked_fields (defining s.name d.env) s >>= λ fs. Ok (record d { env = completed s.name fs d.env })

abbrev pub struct_base : ℕ → Env → Result Qualified Rule
struct_base tag env = Ok (record { ty = ty.Struct tag; readonly = false })

-- a struct and the variables that are declared with it
abbrev pub structure_with : SourceStruct → List Init → Step
structure_with s inits d = structure s d >>= globals (struct_base (length d.env.structs)) inits
