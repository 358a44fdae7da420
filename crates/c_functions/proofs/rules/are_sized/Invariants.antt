use Rattle.std.proofs.Common.{◌≡◌, drop}
use Rattle.c_checking.specs.Functions.{types_of, are_sized}
use Rattle.c_functions.proofs.rules.are_sized.Given as goal

abbrev pub invariant-loop-param : goal.invariant-loop-param
invariant-loop-param l = are_sized l.env (types_of l.params) ≡ are_sized l.env (types_of (drop l.param-index l.params))
