-- A tree whose last part is not main is no program.
use Rattle.std.proofs.Common.{sym, ◌∙◌}
use Rattle.tics_call.proofs.FormLaws.{no_main_in}
use Rattle.tics_call.proofs.form.outline.Goals as goal

pub returns-in_default-main_parts : goal.returns-in_default-main_parts
returns-in_default-main_parts c = λ p h.
    no_main_in p c.args.tree.now c.in-Some.declarations.now c.in-Some.main.now (sym c.as_slice.ensures
    ∙ c.in-Some.ensures.cases.0) c.in_default-main_parts.ensures h
