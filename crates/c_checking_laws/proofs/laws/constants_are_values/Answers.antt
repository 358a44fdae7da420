use Rattle.c_checking_laws.proofs.Values.{constant_is_value}
use Rattle.c_checking_laws.proofs.laws.constants_are_values.Goals as goal

pub returns : goal.returns
returns c = constant_is_value
