use Rattle.c_typing.proofs.LawfulOperators.{sequence_lawful}
use Rattle.c_typing.proofs.laws.sequence_is_lawful.Goals as goal

pub returns : goal.returns
returns c = sequence_lawful
