use Rattle.c_fitting_laws.proofs.StmtCalls.{calls_fit}
use Rattle.c_fitting_laws.proofs.laws.calls_fit.Goals as goal

pub returns : goal.returns
returns c = calls_fit
