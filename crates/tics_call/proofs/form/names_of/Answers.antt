-- A part more has its name, or none.
use Rattle.std.proofs.Common.{◌∙◌, ap, List, ℕ, [], ◌∷◌, ◌++◌}
use Rattle.tics_call.specs.Form.{IsDeclaration}
use Rattle.tics_call.proofs.PairedLaws.{paired_start, paired_more, unpaired}
use Rattle.tics_call.proofs.form.names_of.Goals as goal

pub loop-part-init : goal.loop-part-init
loop-part-init c = paired_start IsDeclaration c.new-names.result.items c.args.parts.now c.new-names.ensures.items

pub returns-in_default : goal.returns-in_default
returns-in_default c = λ names p.
    unpaired IsDeclaration names c.args.parts.now c.loop-part.part-index c.part-item.result c.loop-part-test.true
    c.part-item.is c.in_default.ensures p

pub loop-part-preserved : goal.loop-part-preserved
loop-part-preserved c =
    paired_more IsDeclaration c.loop-part.names.items _ c.args.parts.now c.loop-part.part-index c.in-Some.name.now
    c.part-item.result c.loop-part.invariant c.loop-part-test.true c.part-item.is
    c.in-Some.ensures (c.in_ok-push.ensures.items ∙ ap (λ (n : List ℕ). c.loop-part.names.items ++ n ∷ []) c.in_ok-new.ensures)
