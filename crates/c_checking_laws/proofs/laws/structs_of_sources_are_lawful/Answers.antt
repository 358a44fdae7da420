use Rattle.c_checking_laws.proofs.Structs.{structs_of_source}
use Rattle.c_checking_laws.proofs.laws.structs_of_sources_are_lawful.Goals as goal

pub returns : goal.returns
returns c = structs_of_source
