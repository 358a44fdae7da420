use Rattle.std.proofs.Common.{◌≡◌, drop}
use Rattle.ir_build.specs.Few.{have_few_steps}
use Rattle.ir_build.proofs.few.have_few_steps.Given as goal

abbrev pub invariant-loop-function : goal.invariant-loop-function
invariant-loop-function l = have_few_steps l.functions ≡ have_few_steps (drop l.function-index l.functions)
