use Rattle.c_typing.proofs.Walked.{first_fault}
use Rattle.c_typing.proofs.laws.faults_are_the_first.Goals as goal

pub returns : goal.returns
returns c = first_fault
