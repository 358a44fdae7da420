use Rattle.c_typing.proofs.LawfulOperators.{logical_lawful}
use Rattle.c_typing.proofs.laws.logical_is_lawful.Goals as goal

pub returns : goal.returns
returns c = logical_lawful
