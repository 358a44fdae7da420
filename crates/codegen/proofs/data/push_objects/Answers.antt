use Rattle.std.proofs.Common.{ap, sym, ◌∙◌}
use Rattle.c_values.specs.declared.state.Object.{Object}
use Rattle.codegen.proofs.Coding.{objects_step}
use Rattle.codegen.proofs.data.push_objects.Goals as goal

pub loop-at-preserved : goal.loop-at-preserved
loop-at-preserved c =
    objects_step c.args.core.now c.args.addresses.now c.args.objects.now c.loop-at.at c.index-objects-at.result
    c.as_slice.result.now _ c.loop-at.into c.push_scalars.new.into c.loop-at-test.true c.index-objects-at.is c.requires.as_many
    c.requires.there c.loop-at.invariant
    (c.as_slice.ensures ∙ ap (λ (o : Object). o.cells) (sym c.index-objects-at.is)) c.in_ok-push_scalars.ensures
