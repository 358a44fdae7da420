use Rattle.core_layout.proofs.Lying.{slots_rise}
use Rattle.core_layout.proofs.laws.scalars_rise.Goals as goal

pub returns : goal.returns
returns c = slots_rise
