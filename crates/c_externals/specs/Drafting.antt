-- What the parts of a source at file scope make of what is declared before them, as the calls answer it.
use Rattle.std.specs.Prelude.{◌≡◌, ℕ, Bool, true, ◌||◌, ◌&&◌, if◌then◌else◌, length, map, List, [], ◌∷◌, ◌++◌, is_some, Option, Some, None, Result, Ok, Err}
use Rattle.c_tree.specs.declared.declarations.Init.{Init}
use Rattle.c_tree.specs.declared.unit.Struct.{Struct as SourceStruct}
use Rattle.core_tree.specs.declared.types.Member.{Member}
use Rattle.core_tree.specs.declared.types.Ty.{Ty}
use Rattle.core_tree.specs.declared.program.Initial.{Initial as Value}
use Rattle.core_tree.specs.declared.program.Global.{Global}
use Rattle.c_typing.specs.declared.fault.Rule.{Rule}
use Rattle.c_typing.specs.declared.fault.Rule.TheVariants.{Twice, Incomplete}
use Rattle.c_typing.specs.declared.fault.Stop.{Stop}
use Rattle.c_typing.specs.declared.fault.Stop.TheVariants.{Broken, NoMemory}
use Rattle.c_typing.specs.declared.environment.Env.{Env}
use Rattle.c_typing.specs.Outcome.{Outcome, ◌>>=◌, broken}
use Rattle.c_typing.specs.Scopes.{tag_from, is_sized}
use Rattle.c_typing.specs.TypeNames.{Qualified}
use Rattle.c_checking.specs.Externals.{Step, Field, has_twice, is_taken, declare_global, checked_fields, defining, completed}
use Rattle.c_checking.specs.Initialisers.{begun}
use Rattle.c_externals.specs.declared.structs.Fields.{Fields}

-- what a function answers that changes something, unless memory runs out: what stands there behind it
abbrev pub Becomes : {S A : Type 0} → Outcome S → Result A Stop → S → Type 0
Becomes outcome (Ok a) behind = outcome ≡ Ok behind
Becomes outcome (Err (Broken f)) behind = outcome ≡ Err f
Becomes outcome (Err NoMemory) behind = Unit {0}

-- ---- members

abbrev pub member : Field → Member
member f = record { name = f.name; ty = f.ty }

abbrev pub no_fields : Fields
no_fields = record { members = []; constants = [] }

-- the members of a struct so far, and more of them
abbrev pub with_fields : Fields → List Field → Fields
with_fields made fs = record {
  members = made.members ++ map member fs;
  constants = made.constants ++ map (λ (f : Field). f.readonly) fs;
}

-- what comes behind the members of a struct so far
abbrev pub behind : Fields → Outcome (List Field) → Outcome Fields
behind made (Err f) = Err f
behind made (Ok fs) = Ok (with_fields made fs)

-- ---- structs

abbrev pub members_sized : Env → List Member → Bool
members_sized env [] = true
members_sized env (m ∷ more) = is_sized env m.ty && members_sized env more

abbrev pub rule_of : Env → List ℕ → List Member → Option Rule
rule_of env tag ms =
    if is_some (tag_from 0 tag env.structs) || has_twice (map (λ (m : Member). m.name) ms) then Some Twice
    else (if members_sized env ms then None else Some Incomplete)

abbrev pub completed_with : List ℕ → Fields → Env → Env
completed_with tag made env = record env {
  structs = env.structs ++ record { name = tag; members = made.members } ∷ [];
  const_members = env.const_members ++ made.constants ∷ [];
}

-- what is declared behind a struct
abbrev pub structured : SourceStruct → Env → Outcome Env
structured s env = checked_fields (defining s.name env) s >>= λ fs. Ok (completed s.name fs env)

-- ---- variables

-- a name enters file scope as the variable of a number
abbrev pub entered : ℕ → ℕ → List ℕ → Qualified → Env → Outcome Env
entered number line name t env = if is_taken env name then broken Twice line else Ok (declare_global name number t env)

-- a variable of a type, with what its scalars begin with and the number of functions before it
abbrev pub variable : Init → Ty → List Value → ℕ → Global
variable i t init before = record {
  name = i.declr.name;
  ty = t;
  lifetime = None;
  init = init;
  before = before;
  line = i.line;
}

-- a declarator of a type
abbrev pub declared_as : Qualified → Init → Step
declared_as t i d =
    entered (length d.globals) i.line i.declr.name t d.env >>= λ env.
    begun env i.line t.ty i.initial >>= λ init.
    Ok (record d { env = env; globals = d.globals ++ variable i t.ty init (length d.functions) ∷ [] })
