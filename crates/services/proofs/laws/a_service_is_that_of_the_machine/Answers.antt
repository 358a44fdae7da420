use Rattle.services.proofs.Machines.{follows}
use Rattle.services.proofs.laws.a_service_is_that_of_the_machine.Goals as goal

pub returns : goal.returns
returns c = follows
