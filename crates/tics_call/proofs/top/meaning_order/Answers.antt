-- What each way to a meaning comes to.
use Rattle.std.proofs.Common.{◌≡◌, ◌∙◌, ap, sym, subst, inl, refl, Some, Err, List, ℕ}
use Rattle.edge.specs.Told.{Appends}
use Rattle.tics_front.specs.Source.{refusal_text}
use Rattle.tics_meaning.specs.Meant.{Refuses, RefusesReadings, readings_text, meaning_text}
use Rattle.tics_call.specs.declared.outcome.Outcome.TheVariants.{Told, Refused, ReadingsRefused, ReadFault, Unsupported}
use Rattle.tics_call.specs.Command.{Meaning}
use Rattle.tics_call.specs.Outcome.{Seen, seen_by, IsText, refused, readings, fault, unsupported, told, ComesTo, fault_text, unsupported_text}
use Rattle.tics_call.proofs.OutcomeLaws.{said_text}
use Rattle.tics_call.proofs.top.meaning_order.Goals as goal

pub returns-in-Err-Fault-clause-comes_to : goal.returns-in-Err-Fault-clause-comes_to
returns-in-Err-Fault-clause-comes_to g c = λ records.
    let seen : Seen = seen_by g.F.Files.contents g.F.Files.faults g.F.Files.last g.K.Sink.bytes g.K.Sink.faults
    (Some (Meaning (c.args.source.now, c.args.readings.now))) c.args.files.now c.ask.new.files c.args.out.now
    c.put.new.self records records in
    let risen = c.in-Err-Fault.ensures.fault (ap Err c.in-Err-Fault.field-0-is) in
    subst (ComesTo seen) (sym c.said.ensures)
    (said_text seen fault_text ReadFault c.put.result (fault risen) (inl refl)
    (λ t. record {
      risen = risen;
      named = c.in-Err-Fault.ensures.named (ap Err c.in-Err-Fault.field-0-is);
      text = t;
      book = refl;
    })
    c.put.ensures.ok c.put.ensures.failed c.put.ensures.front c.put.ensures.no_memory)

pub returns-in-Ok-text-clause-comes_to : goal.returns-in-Ok-text-clause-comes_to
returns-in-Ok-text-clause-comes_to g c = λ records.
    let seen : Seen = seen_by g.F.Files.contents g.F.Files.faults g.F.Files.last g.K.Sink.bytes g.K.Sink.faults
    (Some (Meaning (c.args.source.now, c.args.readings.now))) c.args.files.now c.ask.new.files c.args.out.now
    c.put-in-Ok-text.new.self records records in
    let reason = c.in-Err-Source.fault in
    let cause : Refuses (g.F.Files.contents c.args.files.now) (c.args.source.now, c.args.readings.now) reason = c.in-Err-Source.ensures.refused reason (ap Err c.in-Err-Source.field-0-is) in
    let text : c.as_slice.result.now ≡ refusal_text reason = c.as_slice.ensures.value ∙ c.in-Ok-text.ensures in
    subst (ComesTo seen) (sym c.said-in-Ok-text.ensures)
    (said_text seen c.as_slice.result.now (Refused reason) c.put-in-Ok-text.result
    (subst (λ (t : List ℕ). IsText seen.files seen.command seen.faults seen.faults_after seen.records_after t) (sym text)
    (refused reason cause)) (inl refl)
    (λ t. record { cause = cause; text = subst (λ (x : List ℕ). Appends seen.bytes seen.bytes_after x) text t; book = refl })
    c.put-in-Ok-text.ensures.ok c.put-in-Ok-text.ensures.failed c.put-in-Ok-text.ensures.front
    c.put-in-Ok-text.ensures.no_memory)

pub returns-in-Ok-text-2-clause-comes_to : goal.returns-in-Ok-text-2-clause-comes_to
returns-in-Ok-text-2-clause-comes_to g c = λ records.
    let seen : Seen = seen_by g.F.Files.contents g.F.Files.faults g.F.Files.last g.K.Sink.bytes g.K.Sink.faults
    (Some (Meaning (c.args.source.now, c.args.readings.now))) c.args.files.now c.ask.new.files c.args.out.now
    c.put-in-Ok-text-2.new.self records records in
    let reason = c.in-Err-Readings.fault in
    let cause : RefusesReadings (g.F.Files.contents c.args.files.now) (c.args.source.now, c.args.readings.now) reason = c.in-Err-Readings.ensures.readings reason (ap Err c.in-Err-Readings.field-0-is) in
    let text : c.as_slice-in-Ok-text-2.result.now ≡ readings_text reason = c.as_slice-in-Ok-text-2.ensures.value ∙ c.in-Ok-text-2.ensures in
    subst (ComesTo seen) (sym c.said-in-Ok-text-2.ensures)
    (said_text seen c.as_slice-in-Ok-text-2.result.now (ReadingsRefused reason) c.put-in-Ok-text-2.result
    (subst (λ (t : List ℕ). IsText seen.files seen.command seen.faults seen.faults_after seen.records_after t) (sym text)
    (readings reason cause)) (inl refl)
    (λ t. record { cause = cause; text = subst (λ (x : List ℕ). Appends seen.bytes seen.bytes_after x) text t; book = refl })
    c.put-in-Ok-text-2.ensures.ok c.put-in-Ok-text-2.ensures.failed c.put-in-Ok-text-2.ensures.front
    c.put-in-Ok-text-2.ensures.no_memory)

pub returns-in-Err-Annotated-clause-comes_to : goal.returns-in-Err-Annotated-clause-comes_to
returns-in-Err-Annotated-clause-comes_to g c = λ records.
    let seen : Seen = seen_by g.F.Files.contents g.F.Files.faults g.F.Files.last g.K.Sink.bytes g.K.Sink.faults
    (Some (Meaning (c.args.source.now, c.args.readings.now))) c.args.files.now c.ask.new.files c.args.out.now
    c.put-in-Err-Annotated.new.self records records in
    let cause = c.in-Err-Annotated.ensures.annotated (ap Err c.in-Err-Annotated.field-0-is) in
    subst (ComesTo seen) (sym c.said-in-Err-Annotated.ensures)
    (said_text seen unsupported_text Unsupported c.put-in-Err-Annotated.result (unsupported cause) (inl refl)
    (λ t. record { cause = cause; text = t; book = refl })
    c.put-in-Err-Annotated.ensures.ok c.put-in-Err-Annotated.ensures.failed c.put-in-Err-Annotated.ensures.front
    c.put-in-Err-Annotated.ensures.no_memory)

pub returns-in-Ok-text_of-clause-comes_to : goal.returns-in-Ok-text_of-clause-comes_to
returns-in-Ok-text_of-clause-comes_to g c = λ records.
    let seen : Seen = seen_by g.F.Files.contents g.F.Files.faults g.F.Files.last g.K.Sink.bytes g.K.Sink.faults
    (Some (Meaning (c.args.source.now, c.args.readings.now))) c.args.files.now c.ask.new.files c.args.out.now
    c.put-in-Ok-text_of.new.self records records in
    let asked = c.in-Ok.ensures.ok in
    let text : c.as_slice-in-Ok-text_of.result.now ≡ meaning_text c.in-Ok.asked.typed c.in-Ok.asked.readings.items =
    c.as_slice-in-Ok-text_of.ensures.value ∙ c.in-Ok-text_of.ensures in
    subst (ComesTo seen) (sym c.said-in-Ok-text_of.ensures)
    (said_text seen c.as_slice-in-Ok-text_of.result.now Told c.put-in-Ok-text_of.result
    (subst (λ (t : List ℕ). IsText seen.files seen.command seen.faults seen.faults_after seen.records_after t) (sym text)
    (told c.in-Ok.asked.typed c.in-Ok.asked.readings.items asked)) (inl refl)
    (λ t. record {
      typed = c.in-Ok.asked.typed;
      readings = c.in-Ok.asked.readings.items;
      asked = asked;
      printed = subst (λ (x : List ℕ). Appends seen.bytes seen.bytes_after x) text t;
      book = refl;
    })
    c.put-in-Ok-text_of.ensures.ok c.put-in-Ok-text_of.ensures.failed c.put-in-Ok-text_of.ensures.front
    c.put-in-Ok-text_of.ensures.no_memory)
