use Rattle.core_layout.proofs.Rising.{variable_lies}
use Rattle.core_layout.proofs.laws.variables_lie_apart.Goals as goal

pub returns : goal.returns
returns c = variable_lies
