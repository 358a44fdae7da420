-- What comes behind the walk over a source.
use Rattle.std.specs.Prelude.{ℕ, List, map, Option, Ok}
use Rattle.c_tree.specs.declared.unit.External.{External}
use Rattle.core_tree.specs.declared.program.Core.{Core}
use Rattle.c_typing.specs.Outcome.{Outcome, ◌>>=◌}
use Rattle.c_checking.specs.declared.draft.Draft.{Draft}
use Rattle.c_checking.specs.Externals.{Step, in_turn}
use Rattle.c_checking.specs.Checked.{external_step, with_definitions, with_main, core_of}

-- the parts of a source one after another, where these are the names of the functions that it defines
abbrev pub steps : List (List ℕ) → List External → Step
steps names all = in_turn (map (external_step names) all)

-- the program of a draft that calls no function without a definition, and has `main`
abbrev pub finished : Option ℕ → Draft → Outcome Core
finished undefined draft = with_definitions undefined draft >>= λ d. with_main d >>= λ d. Ok (core_of d)
