use Rattle.segstack.proofs.Deeds.{enter-deed}
use Rattle.segstack.proofs.laws.enter_makes_the_frame_that_is_placed.Goals as goal

pub returns : goal.returns
returns c = enter-deed
