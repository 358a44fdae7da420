-- the variables so far are stored to, the others not yet
use Rattle.std.proofs.Common.{◌≡◌, ◌++◌, take, drop}
use Rattle.std.specs.Prelude.{map}
use Rattle.tics_call.specs.Run.{assigned}
use Rattle.tics_call.proofs.meaning.assign.Given as goal

abbrev pub invariant-loop-variable : goal.invariant-loop-variable
invariant-loop-variable l = l.variable-items ≡ map (assigned l.store)
    (take l.variable-index l.fn.variables.items) ++ drop l.variable-index l.fn.variables.items
