use Rattle.core_layout.proofs.Lying.{slots_aligned}
use Rattle.core_layout.proofs.laws.scalars_are_aligned.Goals as goal

pub returns : goal.returns
returns c = slots_aligned
