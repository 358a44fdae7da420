use Rattle.c_checking_laws.proofs.Names.{names_of_source}
use Rattle.c_checking_laws.proofs.laws.names_stand_once.Goals as goal

pub returns : goal.returns
returns c = names_of_source
