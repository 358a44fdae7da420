use Rattle.c_checking_laws.proofs.Functions.{head_is}
use Rattle.c_checking_laws.proofs.laws.heads_are_lawful.Goals as goal

pub returns : goal.returns
returns c = head_is
