use Rattle.core_layout.proofs.Rising.{stamps_lie}
use Rattle.core_layout.proofs.laws.stamps_lie_behind.Goals as goal

pub returns : goal.returns
returns c = stamps_lie
