-- The part is a function, and that is main.
use Rattle.tics_call.specs.Form.{main_function}
use Rattle.tics_call.proofs.PartLaws.{no_main, part_made}
use Rattle.tics_call.proofs.parts.main_parts.Goals as goal

pub returns-in_default : goal.returns-in_default
returns-in_default c = λ parts m. c.in_default.ensures (main_function parts m.line) m.is

pub returns-in_default-main_body : goal.returns-in_default-main_body
returns-in_default-main_body c = λ parts m. no_main c.args.part.now c.in-Some.function.now parts c.in-Some.ensures
    c.in_default-main_body.ensures m

pub returns : goal.returns
returns c =
    part_made c.args.part.now c.in-Some.function.now c.in-Some-main_body.parts.now c.in-Some-main_body.ensures.0
    c.in-Some.ensures c.in-Some-main_body.ensures.1
