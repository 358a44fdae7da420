use Rattle.c_typing_laws.proofs.Conversions.{converted_lawful}
use Rattle.c_typing_laws.proofs.laws.converted_is_lawful.Goals as goal

pub returns : goal.returns
returns c = converted_lawful
