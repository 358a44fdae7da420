use Rattle.c_checking_laws.proofs.Programs.{accepted_lawful}
use Rattle.c_checking_laws.proofs.laws.what_check_accepts_is_lawful.Goals as goal

pub returns : goal.returns
returns c = accepted_lawful
