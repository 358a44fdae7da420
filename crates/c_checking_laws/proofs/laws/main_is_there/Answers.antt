use Rattle.c_checking_laws.proofs.Once.{main_is_there}
use Rattle.c_checking_laws.proofs.laws.main_is_there.Goals as goal

pub returns : goal.returns
returns c = main_is_there
