use Rattle.c_typing.proofs.LawfulOperators.{integers_lawful}
use Rattle.c_typing.proofs.laws.integers_are_lawful.Goals as goal

pub returns : goal.returns
returns c = integers_lawful
