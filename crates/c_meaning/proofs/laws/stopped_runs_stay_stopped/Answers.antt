use Rattle.c_meaning.proofs.Shown.{stays_stopped}
use Rattle.c_meaning.proofs.laws.stopped_runs_stay_stopped.Goals as goal

pub returns : goal.returns
returns c = stays_stopped
