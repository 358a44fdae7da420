use Rattle.tics_front_laws.proofs.Programs.{program_lawful}
use Rattle.tics_front_laws.proofs.laws.programs_are_lawful.Goals as goal

pub returns : goal.returns
returns c = program_lawful
