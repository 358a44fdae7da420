-- A tree is one program at most, so where that one is not right none is.
use Rattle.std.proofs.Common.{◌≡◌, ◌∙◌, sym, subst, false, true}
use Rattle.tics_call.specs.Form.{IsProgram}
use Rattle.tics_call.proofs.FormLaws.{one_program}
use Rattle.tics_call.proofs.form.program_of.Goals as goal

pub returns-in_default : goal.returns-in_default
returns-in_default c = λ p right is. (rw c.in_default.is at c.in_ok-program.ensures) p is

pub returns-then-not-is_program : goal.returns-then-not-is_program
returns-then-not-is_program c = λ p right is.
    let found = rw c.in-Some.is at c.in_ok-program.ensures in
    let this : IsProgram c.in-Some.program = subst IsProgram (one_program p c.in-Some.program c.args.tree.now is found) right in
    let both : false ≡ true = sym c.if-not-is_program.true ∙ c.is_program.ensures.is_not this in cc
