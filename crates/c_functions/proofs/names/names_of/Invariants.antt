use Rattle.std.proofs.Common.{◌≡◌, ◌++◌, drop}
use Rattle.c_checking.specs.Functions.{names_of}
use Rattle.c_functions.proofs.names.names_of.Given as goal

abbrev pub invariant-loop-param : goal.invariant-loop-param
invariant-loop-param l = names_of l.params ≡ l.names ++ names_of (drop l.param-index l.params)
