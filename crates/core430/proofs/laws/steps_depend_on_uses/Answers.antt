use Rattle.core430.proofs.Effects.{depends}
use Rattle.core430.proofs.Depends.{step_depends}
use Rattle.core430.proofs.laws.steps_depend_on_uses.Goals as goal

pub returns-clause-instruction : goal.returns-clause-instruction
returns-clause-instruction c = depends

pub returns-clause-step : goal.returns-clause-step
returns-clause-step c = step_depends
