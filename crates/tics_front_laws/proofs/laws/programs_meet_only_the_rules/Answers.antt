use Rattle.tics_front_laws.proofs.Programs.{program_meets_only_the_rules}
use Rattle.tics_front_laws.proofs.laws.programs_meet_only_the_rules.Goals as goal

pub returns : goal.returns
returns c = program_meets_only_the_rules
