use Rattle.matching.proofs.Even.{made_aligned}
use Rattle.matching.proofs.laws.words_are_aligned.Goals as goal

pub returns : goal.returns
returns c core next s made = made_aligned core (c.scalars_are_aligned.ensures core.structs) next s made
