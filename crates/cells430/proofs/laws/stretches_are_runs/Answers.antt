use Rattle.cells430.proofs.Counting.{runs_proper}
use Rattle.cells430.proofs.laws.stretches_are_runs.Goals as goal

pub returns : goal.returns
returns c = runs_proper
