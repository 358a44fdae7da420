use Rattle.services.proofs.Counting.{counted, cut_short}
use Rattle.services.proofs.laws.a_service_is_counted_by_the_machine.Goals as goal

pub returns-clause-served : goal.returns-clause-served
returns-clause-served c = counted

pub returns-clause-cut : goal.returns-clause-cut
returns-clause-cut c = cut_short
