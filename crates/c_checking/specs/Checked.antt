-- What a source is by the rules of the language: its typed tree, or the first fault (C99 6.9).
use Rattle.std.specs.Prelude.{ℕ, Bool, true, false, ◌||◌, ◌&&◌, if◌then◌else◌, bytes_eq, codes, map, List, [], ◌∷◌, Option, Some, None, Ok}
use Rattle.base16.specs.declared.integer.IntType.TheVariants.{Int}
use Rattle.c_tree.specs.declared.declarations.Init.{Init}
use Rattle.c_tree.specs.declared.unit.External.{External}
use Rattle.c_tree.specs.declared.unit.External.TheVariants as external
use Rattle.c_tree.specs.declared.unit.Tree.{Tree}
use Rattle.core_tree.specs.declared.types.Ty.TheVariants as ty
use Rattle.core_tree.specs.declared.program.Core.{Core}
use Rattle.core_tree.specs.declared.program.Typed.{Typed}
use Rattle.core_tree.specs.declared.program.Function.{Function}
use Rattle.core_tree.specs.Types.{same}
use Rattle.c_typing.specs.declared.fault.Rule.TheVariants.{WrongType, Incomplete, NoMain}
use Rattle.c_typing.specs.Outcome.{Outcome, ◌>>=◌, broken}
use Rattle.c_checking.specs.declared.draft.Draft.{Draft}
use Rattle.c_checking.specs.Declarators.{base_of}
use Rattle.c_checking.specs.Externals.{Step, in_turn, globals, structure_with}
use Rattle.c_checking.specs.Functions.{function}
use Rattle.c_checking.specs.Calls.{definitions, first_undefined}
use Rattle.c_checking.specs.Numbering.{numbered}

-- ---- the walk

abbrev pub first_line : List Init → ℕ
first_line [] = 0
first_line (i ∷ more) = i.line

-- a part of a source, where these are the names of the functions that it defines; `static` says nothing
abbrev pub external_step : List (List ℕ) → External → Step
external_step names (external.Struct defined inits) = structure_with defined inits
external_step names (external.Function is_static f) = function names f
external_step names (external.Declaration is_static None d) = globals (λ env. base_of env d.spec) d.inits
external_step names (external.Declaration is_static (Some lifetime) d) = λ draft. broken WrongType (first_line d.inits)

-- nothing is declared
abbrev pub at_start : Draft
at_start = record {
  env = record {
    structs = [];
    const_members = [];
    defining = None;
    names = [];
    functions = [];
    locals = [];
    result = ty.Void;
    start = 0;
    inside = false;
  };
  globals = [];
  functions = [];
}

abbrev pub walked : Tree → Outcome Draft
walked tree = in_turn (map (external_step (definitions tree)) tree.externals) at_start

-- ---- after the walk

abbrev pub core_of : Draft → Core
core_of d = record { structs = d.env.structs; globals = d.globals; functions = d.functions }

-- a call of a function that is never defined
abbrev pub with_definitions : Option ℕ → Draft → Outcome Draft
with_definitions None d = Ok d
with_definitions (Some line) d = broken Incomplete line

abbrev pub is_empty : {A : Type 0} → List A → Bool
is_empty [] = true
is_empty (x ∷ more) = false

abbrev pub is_main : Function → Bool
is_main f = bytes_eq f.name (codes "main") && is_empty f.params && same f.result (ty.Num Int)

abbrev pub has_main : List Function → Bool
has_main [] = false
has_main (f ∷ more) = is_main f || has_main more

-- `int main(void)` is defined; that it is not has no line
abbrev pub with_main : Draft → Outcome Draft
with_main d = if has_main d.functions then Ok d else broken NoMain 0

-- ---- the whole

unfoldable pub checked : Tree → Outcome Typed
checked tree =
    walked tree >>= λ d. with_definitions (first_undefined tree) d >>= λ d. with_main d >>= λ d.
    Ok (record { core = numbered (core_of d) })
