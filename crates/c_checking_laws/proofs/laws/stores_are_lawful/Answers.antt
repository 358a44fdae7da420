use Rattle.c_checking_laws.proofs.Locals.{stores_lawful}
use Rattle.c_checking_laws.proofs.laws.stores_are_lawful.Goals as goal

pub returns : goal.returns
returns c = stores_lawful
