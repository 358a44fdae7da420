use Rattle.services.proofs.Few.{deed-short, spends}
use Rattle.services.proofs.bounds.a_service_takes_few_ticks.Goals as goal

pub returns-clause-effect : goal.returns-clause-effect
returns-clause-effect c = deed-short

pub returns-clause-spends : goal.returns-clause-spends
returns-clause-spends c = spends
