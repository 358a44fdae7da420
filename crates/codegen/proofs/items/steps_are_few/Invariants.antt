-- the functions so far have few steps
use Rattle.codegen.specs.Placing.{HaveFewSteps}
use Rattle.codegen.proofs.items.steps_are_few.Given as goal

abbrev pub invariant-loop-function : goal.invariant-loop-function
invariant-loop-function l = HaveFewSteps l.functions l.function-index
