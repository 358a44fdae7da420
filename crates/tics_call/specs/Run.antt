-- The C run of a program that stores constants, and what the board's history is.
use Rattle.std.specs.Prelude.{ℕ, ◌+◌, ◌==◌, List, [], ◌∷◌, length, map, reverse, Option, Some, None, if◌then◌else◌}
use Rattle.std.specs.List.{find}
use Rattle.std.specs.Str.{bytes_eq}
use Rattle.base16.specs.declared.end.EndKind.TheVariants.{Done}
use Rattle.base16.specs.declared.image.Kind.TheVariants.{Int}
use Rattle.base16.specs.declared.image.Scalar.{Scalar}
use Rattle.base16.specs.declared.image.Symbols.{Symbols}
use Rattle.world.specs.declared.history.Record.{Record}
use Rattle.world.specs.declared.history.Record.TheVariants.{On, Commit, End}
use Rattle.world.specs.declared.history.Shown.{Shown}
use Rattle.world.specs.declared.history.Shown.TheVariants.{Value}
use Rattle.tics_call.specs.declared.meaning.Variable.{Variable}
use Rattle.tics_call.specs.declared.source.Program.{Program}
use Rattle.tics_call.specs.declared.source.Store.{Store}

-- ---- values
abbrev pub value_of : Option Store → ℕ
value_of None = 0
value_of (Some store) = store.value

-- the value of the last store to a name, and 0 without one (C99 6.5.16, 6.7.8)
abbrev pub last_value : List Store → List ℕ → ℕ
last_value stores name = value_of (find (λ store. bytes_eq store.name name) (reverse stores))

-- a name's global after these stores
abbrev pub global_after : List Store → List ℕ → Variable
global_after stores name = record { name = name; value = last_value stores name }

abbrev pub globals_after : Program → List Variable
globals_after program = map (global_after program.stores) program.names

-- a variable after one store
abbrev pub assigned : Store → Variable → Variable
assigned store variable = record {
  name = variable.name;
  value =
      if bytes_eq store.name variable.name then store.value else variable.value;
}

-- ---- the history
-- the globals that are not 0, each by its number, in order of declaration
abbrev pub sets_from : ℕ → List Variable → List Shown
sets_from number [] = []
sets_from number (global ∷ globals) =
    if global.value == 0 then sets_from (number + 1) globals else Value number global.value ∷ sets_from (number + 1) globals

-- Power is on, the program enters main, makes its stores and leaves main; leaving completes the one commit, which
-- ends the run.
abbrev pub history_of : Program → List Record
history_of program = On 1 ∷ Commit 1 (2 + length program.stores) 0 0 0 0 0 (sets_from 0 (globals_after program)) ∷ End Done ∷ []

-- ---- the symbols
-- globals of two bytes each, in order of declaration
abbrev pub scalars_from : ℕ → List (List ℕ) → List Scalar
scalars_from address [] = []
scalars_from address (name ∷ names) = record {
  name = name;
  address = address;
  kind = Int;
  stamp =
      None;
} ∷ scalars_from (address + 2) names

abbrev pub symbols_of : Program → Symbols
symbols_of program = record { scalars = scalars_from 0x4000 program.names; functions = [] }
