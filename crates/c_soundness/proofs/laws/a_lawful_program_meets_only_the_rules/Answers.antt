use Rattle.c_soundness.proofs.Lawful.{meets_only_the_rules}
use Rattle.c_soundness.proofs.laws.a_lawful_program_meets_only_the_rules.Goals as goal

pub returns : goal.returns
returns c = meets_only_the_rules
