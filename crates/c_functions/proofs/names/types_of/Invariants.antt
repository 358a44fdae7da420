use Rattle.std.proofs.Common.{◌≡◌, ◌++◌, drop}
use Rattle.c_checking.specs.Functions.{types_of}
use Rattle.c_functions.proofs.names.types_of.Given as goal

abbrev pub invariant-loop-param : goal.invariant-loop-param
invariant-loop-param l = types_of l.params ≡ l.types ++ types_of (drop l.param-index l.params)
