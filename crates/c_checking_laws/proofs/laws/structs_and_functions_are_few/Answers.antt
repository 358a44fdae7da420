use Rattle.c_checking_laws.proofs.Counts.{few_of_source}
use Rattle.c_checking_laws.proofs.laws.structs_and_functions_are_few.Goals as goal

pub returns : goal.returns
returns c = few_of_source
