use Rattle.ir.proofs.Once.{steps_once}
use Rattle.ir.proofs.laws.ordered_forms_make_each_step_once.Goals as goal

pub returns : goal.returns
returns c = λ ir ordered rs. steps_once ir rs ordered
