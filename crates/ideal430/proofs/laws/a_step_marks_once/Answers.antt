use Rattle.ideal430.proofs.Runs.{next-counts}
use Rattle.ideal430.proofs.laws.a_step_marks_once.Goals as goal

pub returns : goal.returns
returns c = next-counts
