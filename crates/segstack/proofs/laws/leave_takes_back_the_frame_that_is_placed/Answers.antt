use Rattle.segstack.proofs.Deeds.{leave-deed}
use Rattle.segstack.proofs.laws.leave_takes_back_the_frame_that_is_placed.Goals as goal

pub returns : goal.returns
returns c = leave-deed
