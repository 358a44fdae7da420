use Rattle.std.proofs.Common.{◌≡◌, drop}
use Rattle.c_checking.specs.Functions.{types_of, have_struct}
use Rattle.c_functions.proofs.rules.have_struct.Given as goal

abbrev pub invariant-loop-param : goal.invariant-loop-param
invariant-loop-param l = have_struct (types_of l.params) ≡ have_struct (types_of (drop l.param-index l.params))
