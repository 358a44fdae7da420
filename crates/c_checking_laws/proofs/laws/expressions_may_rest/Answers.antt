use Rattle.c_checking_laws.proofs.Walks.{rests}
use Rattle.c_checking_laws.proofs.laws.expressions_may_rest.Goals as goal

pub returns : goal.returns
returns c = rests
