use Rattle.std.proofs.Common.{◌≡◌, drop}
use Rattle.c_parse.specs.Externals.{all_named}
use Rattle.c_parse.proofs.functions.all_named.Given as goal

abbrev pub invariant-loop-param : goal.invariant-loop-param
invariant-loop-param l = all_named l.params ≡ all_named (drop l.param-index l.params)
