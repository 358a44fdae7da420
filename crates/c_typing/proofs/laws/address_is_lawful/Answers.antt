use Rattle.c_typing.proofs.LawfulOperands.{address_lawful}
use Rattle.c_typing.proofs.laws.address_is_lawful.Goals as goal

pub returns : goal.returns
returns c = address_lawful
