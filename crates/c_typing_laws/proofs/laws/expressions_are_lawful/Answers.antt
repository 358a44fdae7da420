use Rattle.c_typing_laws.proofs.Whole.{means_lawful}
use Rattle.c_typing_laws.proofs.laws.expressions_are_lawful.Goals as goal

pub returns : goal.returns
returns c = means_lawful
