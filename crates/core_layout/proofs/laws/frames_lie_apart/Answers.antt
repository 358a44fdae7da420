use Rattle.core_layout.proofs.Framing.{frames_lie_apart}
use Rattle.core_layout.proofs.laws.frames_lie_apart.Goals as goal

pub returns : goal.returns
returns c = frames_lie_apart
