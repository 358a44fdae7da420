use Rattle.std.proofs.Common.{◌≡◌, ◌+◌, drop}
use Rattle.ir.specs.Machine as spec
use Rattle.ir_run.proofs.whole.steps_in.Given as goal

abbrev pub invariant-loop-function : goal.invariant-loop-function
invariant-loop-function l = spec.steps_in l.functions ≡ l.sum + spec.steps_in (drop l.function-index l.functions)
