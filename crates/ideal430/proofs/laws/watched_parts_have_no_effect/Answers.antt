use Rattle.ideal430.proofs.Runs.{run-watched}
use Rattle.ideal430.proofs.laws.watched_parts_have_no_effect.Goals as goal

pub returns : goal.returns
returns c = run-watched
