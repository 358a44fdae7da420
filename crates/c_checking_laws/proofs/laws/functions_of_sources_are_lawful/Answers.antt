use Rattle.c_checking_laws.proofs.Sources.{functions_of_source}
use Rattle.c_checking_laws.proofs.laws.functions_of_sources_are_lawful.Goals as goal

pub returns : goal.returns
returns c = functions_of_source
