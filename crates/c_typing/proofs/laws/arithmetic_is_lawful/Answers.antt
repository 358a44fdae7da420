use Rattle.c_typing.proofs.LawfulOperators.{arithmetic_lawful}
use Rattle.c_typing.proofs.laws.arithmetic_is_lawful.Goals as goal

pub returns : goal.returns
returns c = arithmetic_lawful
