use Rattle.std.proofs.Common.{◌≡◌, drop}
use Rattle.c_meaning.specs.After.{main_from}
use Rattle.c_start.proofs.names.main_of.Given as goal

abbrev pub invariant-loop-function : goal.invariant-loop-function
invariant-loop-function l =
    (l.number ≡ l.function-index) × (main_from 0 l.functions ≡ main_from l.number (drop l.number l.functions))
