use Rattle.ideal430.proofs.Runs.{run-more}
use Rattle.ideal430.proofs.laws.later_readings_wait.Goals as goal

pub returns : goal.returns
returns c = run-more
