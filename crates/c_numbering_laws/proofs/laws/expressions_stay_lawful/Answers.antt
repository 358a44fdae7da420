use Rattle.c_numbering_laws.proofs.Scopes.{expression_stays}
use Rattle.c_numbering_laws.proofs.laws.expressions_stay_lawful.Goals as goal

pub returns : goal.returns
returns c = expression_stays
