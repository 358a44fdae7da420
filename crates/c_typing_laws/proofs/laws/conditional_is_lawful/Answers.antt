use Rattle.c_typing_laws.proofs.Operators.{conditional_sound}
use Rattle.c_typing_laws.proofs.laws.conditional_is_lawful.Goals as goal

pub returns : goal.returns
returns c = conditional_sound
