use Rattle.c_checking_laws.proofs.Order.{globals_in_order}
use Rattle.c_checking_laws.proofs.laws.variables_stand_in_order.Goals as goal

pub returns : goal.returns
returns c = globals_in_order
