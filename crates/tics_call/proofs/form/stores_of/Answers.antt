-- A part more has its store, or none.
use Rattle.std.proofs.Common.{◌∙◌, ap, List, ℕ, [], ◌∷◌, ◌++◌}
use Rattle.tics_call.specs.declared.source.Store.{Store}
use Rattle.tics_call.specs.Form.{IsStore}
use Rattle.tics_call.proofs.PairedLaws.{paired_start, paired_more, unpaired}
use Rattle.tics_call.proofs.form.stores_of.Goals as goal

pub loop-part-init : goal.loop-part-init
loop-part-init c = paired_start IsStore c.new-stores.result.items c.args.parts.now c.new-stores.ensures.items

pub returns-in_default : goal.returns-in_default
returns-in_default c = λ stores p.
    unpaired IsStore stores c.args.parts.now c.loop-part.part-index c.part-item.result c.loop-part-test.true c.part-item.is
    c.in_default.ensures p

pub loop-part-preserved : goal.loop-part-preserved
loop-part-preserved c =
    let store : Store = record { name = c.in-Some.name.now; value = c.in-Some.value } in
    paired_more IsStore c.loop-part.stores.items _ c.args.parts.now c.loop-part.part-index store c.part-item.result
    c.loop-part.invariant c.loop-part-test.true c.part-item.is
    c.in-Some.ensures (c.in_ok-push.ensures.items ∙ ap (λ (n : List ℕ). c.loop-part.stores.items ++ record {
      name = n;
      value =
          c.in-Some.value;
    } ∷ []) c.in_ok-name.ensures)
