-- one variable for each name so far
use Rattle.std.proofs.Common.{◌≡◌, [], take}
use Rattle.std.specs.Prelude.{map}
use Rattle.tics_call.specs.Run.{global_after}
use Rattle.tics_call.proofs.meaning.fresh_variables.Given as goal

abbrev pub invariant-loop-name : goal.invariant-loop-name
invariant-loop-name l = l.variables.items ≡ map (global_after []) (take l.name-index l.names)
