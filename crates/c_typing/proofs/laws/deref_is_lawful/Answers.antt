use Rattle.c_typing.proofs.LawfulOperands.{deref_lawful}
use Rattle.c_typing.proofs.laws.deref_is_lawful.Goals as goal

pub returns : goal.returns
returns c = deref_lawful
