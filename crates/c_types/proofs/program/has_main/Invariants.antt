use Rattle.std.proofs.Common.{◌≡◌, drop}
use Rattle.c_checking.specs.Checked.{has_main}
use Rattle.c_types.proofs.program.has_main.Given as goal

abbrev pub invariant-loop-function : goal.invariant-loop-function
invariant-loop-function l = has_main l.functions ≡ has_main (drop l.function-index l.functions)
