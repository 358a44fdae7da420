-- A program meets only the rules of undefined behaviour, which are numbered from 1 to 12.
use Rattle.std.specs.Prelude.{ℕ, ◌<◌, ◌≤◌, List, length}
use Rattle.base16.specs.declared.reading.Reading.{Reading}
use Rattle.core_tree.specs.declared.program.Core.{Core}
use Rattle.core_tree.specs.Numbers.{core_numbers}
use Rattle.c_meaning.specs.declared.outcome.CState.{CState}
use Rattle.c_meaning.specs.declared.outcome.CState.TheVariants as state
use Rattle.c_meaning.specs.After.{after}

-- where a run is undefined, one of the rules is broken, at one of the program's nodes, which are numbered from 0 on
abbrev pub IsByTheRules : Core → CState → Type 0
IsByTheRules core (state.Undefined rule node) = (1 ≤ rule) × (rule ≤ 12) × (node < length (core_numbers core))
IsByTheRules core (state.Live s) = Unit {0}
IsByTheRules core (state.Ended kind s) = Unit {0}
IsByTheRules core state.NeedsReading = Unit {0}

-- at every number of marks
abbrev pub MeetsOnlyTheRules : Core → List Reading → (s : ℕ) → Type 0
MeetsOnlyTheRules core readings s = IsByTheRules core (after core readings s)
