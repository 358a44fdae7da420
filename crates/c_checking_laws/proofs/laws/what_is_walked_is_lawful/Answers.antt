use Rattle.c_checking_laws.proofs.Programs.{walked_lawful}
use Rattle.c_checking_laws.proofs.laws.what_is_walked_is_lawful.Goals as goal

pub returns : goal.returns
returns c = walked_lawful
