use Rattle.std.proofs.Common.{◌≡◌, ◌++◌, drop}
use Rattle.ir_gen.specs.Form as spec
use Rattle.ir_build.proofs.variables.initial_values.Given as goal

abbrev pub invariant-loop-at : goal.invariant-loop-at
invariant-loop-at l = spec.initial_values l.slots l.inits
    ≡ l.values ++ spec.initial_values (drop l.at l.slots) (drop l.at l.inits)
