use Rattle.c_typing_laws.proofs.Operators.{binary_sound}
use Rattle.c_typing_laws.proofs.laws.binary_is_lawful.Goals as goal

pub returns : goal.returns
returns c = binary_sound
