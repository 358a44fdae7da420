use Rattle.run430.proofs.Compose.{Runs-depends}
use Rattle.run430.specs.Run.{Named}
use Rattle.run430.proofs.laws.runs_depend_on_uses.Goals as goal

pub returns : goal.returns
returns c = λ denied uses changes n s t k h same. Runs-depends denied uses (Named changes) n s t k h same
