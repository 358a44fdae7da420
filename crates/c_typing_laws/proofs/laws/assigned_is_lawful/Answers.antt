use Rattle.c_typing_laws.proofs.Stores.{assigned_sound}
use Rattle.c_typing_laws.proofs.laws.assigned_is_lawful.Goals as goal

pub returns : goal.returns
returns c = assigned_sound
