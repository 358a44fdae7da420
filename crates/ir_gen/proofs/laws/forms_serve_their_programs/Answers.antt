use Rattle.ir_gen.proofs.Formed.{form_serves}
use Rattle.ir_gen.proofs.laws.forms_serve_their_programs.Goals as goal

pub returns : goal.returns
returns c = form_serves
