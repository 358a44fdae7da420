use Rattle.c_fitting_laws.proofs.Lexed.{lexed_in_range}
use Rattle.c_fitting_laws.proofs.laws.lexed_in_range.Goals as goal

pub returns : goal.returns
returns c = lexed_in_range
