use Rattle.c_checking_laws.proofs.Locals.{local_leads}
use Rattle.c_checking_laws.proofs.laws.declarators_are_lawful.Goals as goal

pub returns : goal.returns
returns c = local_leads
