use Rattle.run430.proofs.Placing.{places}
use Rattle.run430.proofs.laws.code_is_placed.Goals as goal

pub returns : goal.returns
returns c = places
