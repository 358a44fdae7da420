use Rattle.std.proofs.Common.{ap}
use Rattle.core430.specs.Instructions.{Sets}
use Rattle.core430.proofs.instruction.deliver.Goals as goal

pub returns-in-InRegister-clause-value : goal.returns-in-InRegister-clause-value
returns-in-InRegister-clause-value g c = rw c.in-InRegister.is (ap Sets c.write.ensures)
