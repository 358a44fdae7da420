use Rattle.std.proofs.Common.{◌≡◌, drop}
use Rattle.c_checking.specs.Functions.{enter_parameters}
use Rattle.c_functions.proofs.parameters.enter_parameters.Given as goal

abbrev pub invariant-loop-parameter : goal.invariant-loop-parameter
invariant-loop-parameter l =
    enter_parameters l.parameters l.fn.env ≡ enter_parameters (drop l.parameter-index l.parameters) l.env
