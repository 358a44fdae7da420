use Rattle.ideal430.proofs.Along.{run-along}
use Rattle.ideal430.proofs.laws.settled_bytes_decide.Goals as goal

pub returns : goal.returns
returns c = run-along
