use Rattle.c_numbering_laws.proofs.Program.{numbered_lawful}
use Rattle.c_numbering_laws.proofs.laws.numbered_is_lawful.Goals as goal

pub returns : goal.returns
returns c = numbered_lawful
