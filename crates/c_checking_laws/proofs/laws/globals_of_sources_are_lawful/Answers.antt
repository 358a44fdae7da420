use Rattle.c_checking_laws.proofs.Globals.{globals_of_source}
use Rattle.c_checking_laws.proofs.laws.globals_of_sources_are_lawful.Goals as goal

pub returns : goal.returns
returns c = globals_of_source
