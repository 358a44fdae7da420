use Rattle.c_checking_laws.proofs.Functions.{function_lawful}
use Rattle.c_checking_laws.proofs.laws.functions_are_lawful.Goals as goal

pub returns : goal.returns
returns c = function_lawful
