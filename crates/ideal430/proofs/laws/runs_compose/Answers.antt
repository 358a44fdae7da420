use Rattle.ideal430.proofs.Runs.{run-add}
use Rattle.ideal430.proofs.laws.runs_compose.Goals as goal

pub returns : goal.returns
returns c = run-add
