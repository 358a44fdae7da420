-- What each way through a run comes to.
use Rattle.std.proofs.Common.{◌≡◌, ◌∙◌, ap, sym, subst, inl, inr, refl, Some, Err, List, ℕ}
use Rattle.std.specs.List.{concat}
use Rattle.edge.specs.Told.{Appends}
use Rattle.tics_front.specs.Source.{refusal_text}
use Rattle.tics_meaning.specs.Meant.{Refuses}
use Rattle.tics_call.specs.declared.outcome.Outcome.TheVariants.{Done, Refused, ReadFault, Unsupported}
use Rattle.tics_call.specs.Command.{Run}
use Rattle.tics_call.specs.Outcome.{Seen, seen_by, IsText, refused, fault, unsupported, printed, ComesTo, HasRun, IsUnsupported, fault_text, unsupported_text, report_of}
use Rattle.tics_call.proofs.OutcomeLaws.{said_text, said_lines}
use Rattle.tics_call.proofs.top.run_order.Goals as goal

pub returns-in-Err-ReadFault-clause-comes_to : goal.returns-in-Err-ReadFault-clause-comes_to
returns-in-Err-ReadFault-clause-comes_to g c =
    let seen : Seen = seen_by g.F.Files.contents g.F.Files.faults g.F.Files.last g.K.Sink.bytes g.K.Sink.faults
    (Some (Run (c.args.source.now, c.args.trace.now))) c.args.files.now c.accept.new.files c.args.out.now
    c.put.new.self c.args.book.now.records c.args.book.now.records in
    let risen = c.in-Err-ReadFault.ensures.fault (ap Err c.in-Err-ReadFault.field-0-is) in
    subst (ComesTo seen) (sym c.said.ensures)
    (said_text seen fault_text ReadFault c.put.result (fault risen) (inl refl)
    (λ t. record {
      risen = risen;
      named = c.in-Err-ReadFault.ensures.named (ap Err c.in-Err-ReadFault.field-0-is);
      text = t;
      book = refl;
    })
    c.put.ensures.ok c.put.ensures.failed c.put.ensures.front c.put.ensures.no_memory)

pub returns-in-Err-Unsupported-clause-comes_to : goal.returns-in-Err-Unsupported-clause-comes_to
returns-in-Err-Unsupported-clause-comes_to g c =
    let seen : Seen = seen_by g.F.Files.contents g.F.Files.faults g.F.Files.last g.K.Sink.bytes g.K.Sink.faults
    (Some (Run (c.args.source.now, c.args.trace.now))) c.args.files.now c.accept.new.files c.args.out.now
    c.put-in-Err-Unsupported.new.self c.args.book.now.records c.args.book.now.records in
    let cause = c.in-Err-Unsupported.ensures.unsupported (ap Err c.in-Err-Unsupported.field-0-is) in
    subst (ComesTo seen) (sym c.said-in-Err-Unsupported.ensures)
    (said_text seen unsupported_text Unsupported c.put-in-Err-Unsupported.result (unsupported cause) (inl refl)
    (λ t. record { cause = cause; text = t; book = refl })
    c.put-in-Err-Unsupported.ensures.ok c.put-in-Err-Unsupported.ensures.failed c.put-in-Err-Unsupported.ensures.front
    c.put-in-Err-Unsupported.ensures.no_memory)

pub returns-in-Ok-text-clause-comes_to : goal.returns-in-Ok-text-clause-comes_to
returns-in-Ok-text-clause-comes_to g c =
    let seen : Seen = seen_by g.F.Files.contents g.F.Files.faults g.F.Files.last g.K.Sink.bytes g.K.Sink.faults
    (Some (Run (c.args.source.now, c.args.trace.now))) c.args.files.now c.accept.new.files c.args.out.now
    c.put-in-Ok-text.new.self c.args.book.now.records c.args.book.now.records in
    let reason = c.in-Err-Source.fault in
    let cause : Refuses (g.F.Files.contents c.args.files.now) (c.args.source.now, c.args.trace.now) reason =
    c.in-Err-Source.ensures.refused reason (ap Err c.in-Err-Source.field-0-is) in
    let text : c.as_slice.result.now ≡ refusal_text reason = c.as_slice.ensures.value ∙ c.in-Ok-text.ensures in
    subst (ComesTo seen) (sym c.said-in-Ok-text.ensures)
    (said_text seen c.as_slice.result.now (Refused reason) c.put-in-Ok-text.result
    (subst (λ (t : List ℕ). IsText seen.files seen.command seen.faults seen.faults_after seen.records_after t) (sym text)
    (refused reason cause)) (inl refl)
    (λ t. record { cause = cause; text = subst (λ (x : List ℕ). Appends seen.bytes seen.bytes_after x) text t; book = refl })
    c.put-in-Ok-text.ensures.ok c.put-in-Ok-text.ensures.failed c.put-in-Ok-text.ensures.front c.put-in-Ok-text.ensures.no_memory)

pub returns-in-Ok-run_and_report-clause-comes_to : goal.returns-in-Ok-run_and_report-clause-comes_to
returns-in-Ok-run_and_report-clause-comes_to g c =
    let seen : Seen = seen_by g.F.Files.contents g.F.Files.faults g.F.Files.last g.K.Sink.bytes g.K.Sink.faults
    (Some (Run (c.args.source.now, c.args.trace.now))) c.args.files.now c.accept.new.files c.args.out.now
    c.print.new.out c.args.book.now.records c.run_and_report.new.book.records in
    let run : HasRun (g.F.Files.contents c.args.files.now) (Some (Run (c.args.source.now, c.args.trace.now)))
    c.run_and_report.new.book.records c.in-Ok.program =
    record { accepted = c.in-Ok.ensures.ok; history = c.in-Ok-run_and_report.ensures.history } in
    let text : concat c.as_slice-in-Ok-run_and_report.result.now ≡ report_of c.in-Ok.program =
    ap concat c.as_slice-in-Ok-run_and_report.ensures.value ∙ c.in-Ok-run_and_report.ensures.lines in
    subst (ComesTo seen) (sym c.said-in-Ok-run_and_report.ensures)
    (said_lines seen (concat c.as_slice-in-Ok-run_and_report.result.now) Done c.print.result
    (subst (λ (t : List ℕ). IsText seen.files seen.command seen.faults seen.faults_after seen.records_after t) (sym text)
    (printed c.in-Ok.program run)) (inr (c.in-Ok.program, run))
    (λ t. record {
      program = c.in-Ok.program;
      run = run;
      printed =
          subst (λ (x : List ℕ). Appends seen.bytes seen.bytes_after x) text t;
    })
    c.print.ensures.ok c.print.ensures.failed c.print.ensures.front)
