use Rattle.c_checking_laws.proofs.Texts.{block_lawful}
use Rattle.c_checking_laws.proofs.laws.blocks_are_lawful.Goals as goal

pub returns : goal.returns
returns c = block_lawful
