-- the sets so far and those of the variables that are left are those of all
use Rattle.std.proofs.Common.{◌≡◌, ◌++◌, drop}
use Rattle.tics_call.specs.Run.{sets_from}
use Rattle.tics_call.proofs.player.sets.Given as goal

abbrev pub invariant-loop-variable : goal.invariant-loop-variable
invariant-loop-variable l = record {
  told : l.sets.items ++ sets_from l.number (drop l.variable-index l.variables) ≡ sets_from 0 l.variables;
  number : l.number ≡ l.variable-index;
}
