use Rattle.c_typing.proofs.LawfulOperands.{value_lawful}
use Rattle.c_typing.proofs.laws.values_are_lawful.Goals as goal

pub returns : goal.returns
returns c = value_lawful
