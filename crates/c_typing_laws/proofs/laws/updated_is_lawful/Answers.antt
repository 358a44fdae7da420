use Rattle.c_typing_laws.proofs.Stores.{updated_sound}
use Rattle.c_typing_laws.proofs.laws.updated_is_lawful.Goals as goal

pub returns : goal.returns
returns c = updated_sound
