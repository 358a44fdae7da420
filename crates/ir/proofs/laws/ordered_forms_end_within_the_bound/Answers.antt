use Rattle.ir.proofs.Bounded.{within_the_bound}
use Rattle.ir.proofs.laws.ordered_forms_end_within_the_bound.Goals as goal

pub returns : goal.returns
returns c = λ ir ordered rs n. within_the_bound ir rs ordered n
