use Rattle.ir_gen.specs.Example.{small_program}
use Rattle.ir_gen.proofs.Formed.{form_serves}
use Rattle.ir_gen.proofs.LawfulStatements.{lawful_is_built}
use Rattle.ir_gen.proofs.SmallProgram.{small_lawful, small_plain}
use Rattle.ir_gen.proofs.laws.a_small_program_has_a_form.Goals as goal

pub returns : goal.returns
returns c = (small_lawful, small_plain, form_serves small_program (lawful_is_built small_program small_lawful small_plain))
