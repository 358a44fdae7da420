use Rattle.std.proofs.Common.{◌<◌, None, refl, sym, subst}
use Rattle.base16.specs.Memory.{words_of}
use Rattle.core430.specs.Registers.{view_of}
use Rattle.ideal430.specs.Shown.{effect_shown}
use Rattle.ideal430.proofs.Serving.{service_at-built, deed-small}
use Rattle.services.proofs.Deeds.{deed-placed, sense-channel}
use Rattle.services.proofs.Whole.{serves-none, serves-refuses, serves-acted, serves-off}
use Rattle.services.proofs.serving.serve.Goals as goal

pub refusal-requires-clause-built : goal.refusal-requires-clause-built
refusal-requires-clause-built g c = service_at-built c.args.n c.in-Some.service (sym c.in-Some.ensures)

pub take_reading-value-requires-clause-built : goal.take_reading-value-requires-clause-built
take_reading-value-requires-clause-built g c = service_at-built c.args.n c.in-Some.service (sym c.in-Some.ensures)

pub take_reading-value-requires-clause-channel : goal.take_reading-value-requires-clause-channel
take_reading-value-requires-clause-channel g c =
    sense-channel c.in-Some.service (view_of c.args.regs.now.r) (words_of c.args.fram.now.words) c.args.work.now.segment
    (sym (c.in_default-refusal.ensures None refl))

pub act-requires-clause-placed : goal.act-requires-clause-placed
act-requires-clause-placed g c =
    let small : c.args.work.now.segment < 32 = subst (λ x. x < 32) (sym c.requires.segment) c.requires.well_formed.segment in
    deed-placed c.in-Some.service c.take_reading-value.result (view_of c.args.regs.now.r)
    (words_of c.args.fram.now.words) c.args.work.now.segment
    (effect_shown c.deed_of-deed.result) (service_at-built c.args.n c.in-Some.service (sym c.in-Some.ensures)) small
    (sym (c.in_default-refusal.ensures None refl)) (c.deed_of-deed.ensures None)

pub act-requires-clause-small : goal.act-requires-clause-small
act-requires-clause-small g c =
    let small : c.args.work.now.segment < 32 = subst (λ x. x < 32) (sym c.requires.segment) c.requires.well_formed.segment in
    deed-small c.in-Some.service c.take_reading-value.result (view_of c.args.regs.now.r)
    (words_of c.args.fram.now.words) c.args.work.now.segment
    (effect_shown c.deed_of-deed.result) (service_at-built c.args.n c.in-Some.service (sym c.in-Some.ensures)) small
    (sym (c.in_default-refusal.ensures None refl)) (c.deed_of-deed.ensures None)

pub returns-in_default-clause-served : goal.returns-in_default-clause-served
returns-in_default-clause-served g c =
    serves-none c.args.n c.args.regs.now.r (words_of c.args.fram.now.words) c.args.work.now _
    (sym c.in_default.ensures) c.requires.well_formed c.clock-clock.ensures.lawful

pub returns-in-Some-refusal-clause-served : goal.returns-in-Some-refusal-clause-served
returns-in-Some-refusal-clause-served g c =
    serves-refuses c.args.n c.in-Some.service c.args.regs.now.r
    (words_of c.args.fram.now.words) c.args.work.now _ c.in-Some-refusal.kind (sym c.in-Some.ensures)
    (sym (c.in-Some-refusal.ensures None refl)) c.requires.well_formed c.clock-clock.ensures.lawful

pub returns-in-Ok-clause-served : goal.returns-in-Ok-clause-served
returns-in-Ok-clause-served g c =
    serves-acted c.args.n c.take_reading-value.result c.in-Some.service c.args.regs.now.r _
    (words_of c.args.fram.now.words) _ c.args.work.now c.act.new.work _ _ _
    c.deed_of-deed.result _ c.in-Ok.committed (sym c.in-Some.ensures)
    (service_at-built c.args.n c.in-Some.service (sym c.in-Some.ensures))
    (sym (c.in_default-refusal.ensures None refl))
    (c.deed_of-deed.ensures None) c.if-deed.true c.take_reading-value.ensures refl c.requires.segment
    c.requires.closed c.in-Ok.ensures.acts

pub returns-in-Ok-2-clause-served : goal.returns-in-Ok-2-clause-served
returns-in-Ok-2-clause-served g c =
    serves-acted c.args.n c.take_reading-value.result c.in-Some.service c.args.regs.now.r _
    (words_of c.args.fram.now.words) _ c.args.work.now c.act.new.work _ _ _
    c.deed_of-deed.result _ c.in-Ok.committed (sym c.in-Some.ensures)
    (service_at-built c.args.n c.in-Some.service (sym c.in-Some.ensures))
    (sym (c.in_default-refusal.ensures None refl))
    (c.deed_of-deed.ensures None) c.if-deed.false c.take_reading-value.ensures refl c.requires.segment
    c.requires.closed c.in-Ok.ensures.acts

pub returns-in-Err-clause-served : goal.returns-in-Err-clause-served
returns-in-Err-clause-served g c =
    serves-off c.args.n c.take_reading-value.result c.in-Some.service c.args.regs.now.r _
    (words_of c.args.fram.now.words) _ c.args.work.now c.act.new.work _ _ _
    c.deed_of-deed.result _ (sym c.in-Some.ensures) (sym (c.in_default-refusal.ensures None refl))
    (c.deed_of-deed.ensures None) c.take_reading-value.ensures c.in-Err.ensures.acts
