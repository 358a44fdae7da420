use Rattle.core_layout.proofs.Lying.{size_is_even}
use Rattle.core_layout.proofs.laws.sizes_are_even.Goals as goal

pub returns : goal.returns
returns c = size_is_even
