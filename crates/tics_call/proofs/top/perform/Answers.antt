-- What each command comes to.
use Rattle.std.proofs.Common.{◌≡◌, ◌∙◌, ap, sym, subst, inl, refl, Option, Some}
use Rattle.tics_call.specs.declared.command.Verb.{Verb}
use Rattle.tics_call.specs.declared.outcome.Outcome.TheVariants.{Usage}
use Rattle.tics_call.specs.Command.{Order, Meaning, texts, command_of, ordered}
use Rattle.tics_call.specs.Outcome.{Seen, seen_by, usage, ComesTo, usage_text}
use Rattle.tics_call.proofs.OutcomeLaws.{said_text}
use Rattle.tics_call.proofs.top.perform.Goals as goal

pub returns-in-None-clause-comes_to : goal.returns-in-None-clause-comes_to
returns-in-None-clause-comes_to g c =
    let seen : Seen = seen_by g.F.Files.contents g.F.Files.faults g.F.Files.last g.K.Sink.bytes g.K.Sink.faults
    (command_of (texts c.args.words.now)) c.args.files.now c.args.files.now c.args.out.now c.put.new.self c.args.book.now.records
    c.args.book.now.records in
    subst (ComesTo seen) (sym c.said.ensures)
    (said_text seen usage_text Usage c.put.result (usage c.in-None.ensures) (inl refl)
    (λ t. record { words = c.in-None.ensures; text = t; book = refl })
    c.put.ensures.ok c.put.ensures.failed c.put.ensures.front c.put.ensures.no_memory)

pub returns-in-Some-Meaning-default-default-clause-comes_to :
    goal.returns-in-Some-Meaning-default-default-clause-comes_to
returns-in-Some-Meaning-default-default-clause-comes_to g c =
    let source = c.in-Some-Meaning-default-default.source in
    let readings = c.in-Some-Meaning-default-default.readings in
    let order : command_of (texts c.args.words.now) ≡ Some (Meaning (source.now, readings.now)) =
    c.in-Some-Meaning-default-default.ensures
    ∙ ap (λ (v : Verb). Some (ordered v (source.now, readings.now))) c.in-Some-Meaning-default-default.field-0-0-is in
    subst (λ (o : Option Order). ComesTo (seen_by g.F.Files.contents g.F.Files.faults g.F.Files.last g.K.Sink.bytes
    g.K.Sink.faults o c.args.files.now c.meaning_order.new.files c.args.out.now c.meaning_order.new.out
    c.args.book.now.records c.args.book.now.records) c.meaning_order.result)
    (sym order) (c.meaning_order.ensures.comes_to c.args.book.now.records)
