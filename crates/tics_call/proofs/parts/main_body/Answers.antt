-- The function is main by its head, and its body is told.
use Rattle.std.proofs.Common.{◌≡◌, ◌∙◌, sym, true, false}
use Rattle.tics_call.proofs.PartLaws.{main_made}
use Rattle.tics_call.proofs.parts.main_body.Goals as goal

pub returns-then-not-is_main : goal.returns-then-not-is_main
returns-then-not-is_main c = λ parts line e. let both : false ≡ true = sym c.if-not-is_main.true
    ∙ c.is_main.ensures.is_not parts line e in cc

pub returns : goal.returns
returns c =
    let head = c.is_main.ensures.is c.if-not-is_main.false in
    (c.args.function.now.line, main_made c.args.function.now c.in-Some.parts.now head.0 head.1 head.2 head.3 c.in-Some.ensures)
