use Rattle.ir_gen.proofs.LawfulStatements.{lawful_is_built}
use Rattle.ir_gen.proofs.laws.lawful_programs_are_built.Goals as goal

pub returns : goal.returns
returns c = lawful_is_built
