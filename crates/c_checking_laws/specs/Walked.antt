-- What the walk over a source keeps: what is declared at a point of it stands in the end.
use Rattle.std.specs.Prelude.{◌≡◌, ℕ, true, false, List, [], ◌++◌, map, slice_get, is_some, Some, None, Ok}
use Rattle.c_tree.specs.declared.unit.External.{External}
use Rattle.c_tree.specs.declared.unit.Tree.{Tree}
use Rattle.core_tree.specs.declared.types.Struct.{Struct}
use Rattle.core_tree.specs.declared.program.Global.{Global}
use Rattle.core_tree.specs.declared.program.Function.{Function}
use Rattle.core_tree.specs.LawfulCore.{Every, IsFunction, Apart, AreStructs, IsMain, file_names}
use Rattle.c_typing.specs.declared.environment.Env.{Env}
use Rattle.c_typing.specs.declared.environment.Named.{Named}
use Rattle.c_typing.specs.declared.environment.Signature.{Signature}
use Rattle.c_typing.specs.declared.environment.What.{What}
use Rattle.c_typing.specs.declared.environment.What.TheVariants as w
use Rattle.c_checking.specs.declared.draft.Draft.{Draft}
use Rattle.c_typing.specs.Scopes.{lookup}
use Rattle.c_typing.specs.Calls.{builtin_named}
use Rattle.c_checking.specs.Walk.{Walk}
use Rattle.c_checking.specs.Externals.{in_turn}
use Rattle.c_checking.specs.Functions.{place_from}
use Rattle.c_checking.specs.Calls.{definitions}
use Rattle.c_checking.specs.Checked.{external_step, at_start, walked, core_of, with_main}
use Rattle.c_checking_laws.specs.Fitting.{is_known, tree_fits}
use Rattle.c_checking_laws.specs.Standing.{Begins, Declared, IsLocal}

-- ---- from one point of a function to a later one, whatever stands between

pub record Around (env behind : Env) : Type 0 where
  pub structs : behind.structs ≡ env.structs
  pub const_members : behind.const_members ≡ env.const_members
  pub defining : behind.defining ≡ env.defining
  pub functions : behind.functions ≡ env.functions
  pub result : behind.result ≡ env.result
  pub inside : behind.inside ≡ env.inside
  pub start : behind.start ≡ env.start
  pub names : Begins env.names behind.names

abbrev pub Steady : {A : Type 0} → Walk A → Type 0
Steady {A = A} walk = (env behind : Env) (a : A) → walk env ≡ Ok (a, behind) → Around env behind

-- ---- at file scope

-- a function that is declared has the number of its definition among these names, and is as it is defined, if it is
pub record IsDeclaredAs (names : List (List ℕ)) (functions : List Function) (name : List ℕ) (f : Signature) : Type 0 where
  pub number : f.number ≡ place_from 0 names name
  pub as_defined : (i : ℕ) (g : Function) → slice_get functions i ≡ Some g → g.name ≡ name
      → (g.params ≡ f.params) × (g.result ≡ f.result)

-- what a name at file scope stands for, where these are the names of the functions that the source defines, the variables,
-- the functions that are declared, those that are defined, and all names
abbrev pub StandsIn : List (List ℕ) → List Global → List Signature → List Function → List Named → List ℕ → What → Type 0
StandsIn names globals signatures functions all name (w.Local n t readonly) = ⊥
StandsIn names globals signatures functions all name (w.Global n t readonly) =
    (g : Global) × (slice_get globals n ≡ Some g) × (g.ty ≡ t)
StandsIn names globals signatures functions all name (w.Function place) =
    (f : Signature) × (slice_get signatures place ≡ Some f) × IsDeclaredAs names functions name f
    × (lookup all name ≡ Some (w.Function place))
    × (is_some (builtin_named name) ≡ false)

abbrev pub FileStands : List (List ℕ) → Draft → Named → Type 0
FileStands names d n = StandsIn names d.globals d.env.functions d.functions d.env.names n.name n.what

-- what a source has declared up to a point between its parts, where these are the names of the functions that it defines
pub record AtFileScope (names : List (List ℕ)) (d : Draft) : Type 0 where
  pub locals : d.env.locals ≡ []
  pub start : d.env.start ≡ 0
  pub outside : d.env.inside ≡ false
  pub alone : d.env.defining ≡ None
  pub stand : Every (FileStands names d) d.env.names
  -- each function that is defined is declared
  pub defined : Every (λ (g : Function). (place : ℕ) × (lookup d.env.names g.name ≡ Some (w.Function place))) d.functions

-- what is declared stays, and more is added behind it
pub record Grows (d behind : Draft) : Type 0 where
  pub structs : Begins d.env.structs behind.env.structs
  pub globals : Begins d.globals behind.globals
  pub functions : Begins d.functions behind.functions
  pub names : Begins d.env.names behind.env.names
  pub signatures : (place : ℕ) (f : Signature) → slice_get d.env.functions place ≡ Some f
      → (g : Signature) × (slice_get behind.env.functions place ≡ Some g) × (g.params ≡ f.params) × (g.result ≡ f.result)
      × (g.number ≡ f.number)

-- ---- the walk

-- at a point between two parts of a source what is declared stands for what the whole has in the end
abbrev pub PointStands : Tree → List External → List External → Draft → Draft → Type 0
PointStands tree before after d last =
    tree.externals ≡ before ++ after
    → in_turn (map (external_step (definitions tree)) before) at_start ≡ Ok d
    → in_turn (map (external_step (definitions tree)) after) d ≡ Ok last
    → Declared (is_known (definitions tree)) (core_of last) d.env × (d.env.locals ≡ [])

-- each function that a source defines
abbrev pub FunctionsOfSource : Tree → Draft → Type 0
FunctionsOfSource tree last =
    tree_fits tree ≡ true → walked tree ≡ Ok last → Every (IsFunction (core_of last) false) last.functions

-- the structs of a source, each with a tag of its own, and its variables as objects
abbrev pub StructsOfSource : Tree → Draft → Type 0
StructsOfSource tree last =
    tree_fits tree ≡ true → walked tree ≡ Ok last
    → AreStructs (core_of last) 0 last.env.structs × Apart (map (λ (s : Struct). s.name) last.env.structs)
    × Every (λ (g : Global). IsLocal (core_of last) g.ty) last.globals

-- `int main(void)` is one of the functions
abbrev pub MainIsThere : Draft → Draft → Type 0
MainIsThere d last =
    with_main d ≡ Ok last → (n : ℕ) × ((f : Function) × ((slice_get last.functions n ≡ Some f) × IsMain f))

-- the names at file scope stand once each
abbrev pub NamesOfSource : Tree → Draft → Type 0
NamesOfSource tree last = walked tree ≡ Ok last → Apart (file_names (core_of last))
