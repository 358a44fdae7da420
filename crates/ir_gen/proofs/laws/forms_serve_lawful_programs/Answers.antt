use Rattle.ir_gen.proofs.Formed.{form_serves}
use Rattle.ir_gen.proofs.LawfulStatements.{lawful_is_built}
use Rattle.ir_gen.proofs.laws.forms_serve_lawful_programs.Goals as goal

pub returns : goal.returns
returns c = λ core lawful plain. form_serves core (lawful_is_built core lawful plain)
