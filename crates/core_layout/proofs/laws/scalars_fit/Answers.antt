use Rattle.core_layout.proofs.Lying.{slots_fit}
use Rattle.core_layout.proofs.laws.scalars_fit.Goals as goal

pub returns : goal.returns
returns c = slots_fit
