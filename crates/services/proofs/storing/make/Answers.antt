use Rattle.std.proofs.Common.{◌∙◌, ap}
use Rattle.std.proofs.lemmas.Result.{on_err_weaker}
use Rattle.base16.specs.Memory.{words_of}
use Rattle.core430.specs.Bytes.{word_address, with_byte}
use Rattle.ideal430.specs.declared.service.Store.TheVariants.{Word, Byte, Link}
use Rattle.services.proofs.Stores.{made-word, made-byte, made-link, made-store, placed-as}
use Rattle.services.proofs.storing.make.Goals as goal

pub put-requires-clause-loggable : goal.put-requires-clause-loggable
put-requires-clause-loggable g c =
    placed-as c.args.work.now.segment c.args.store (Word c.in-Word.address c.in-Word.word) c.in-Word.is c.requires.placed

pub put-requires-in-Byte-clause-loggable : goal.put-requires-in-Byte-clause-loggable
put-requires-in-Byte-clause-loggable g c =
    placed-as c.args.work.now.segment c.args.store (Byte c.in-Byte.address c.in-Byte.byte) c.in-Byte.is c.requires.placed

pub write-requires : goal.write-requires
write-requires g c =
    (placed-as c.args.work.now.segment c.args.store (Link c.in-Link.address c.in-Link.word) c.in-Link.is c.requires.placed).2

pub returns-in-Word-clause-made : goal.returns-in-Word-clause-made
returns-in-Word-clause-made g c =
    made-store c.args.work.now.segment c.args.store (Word c.in-Word.address c.in-Word.word) _ _ _ _ _ c.in-Word.is
    (made-word c.args.work.now.segment c.in-Word.address c.in-Word.word _ _ _ _ _ c.requires.segment
    c.put.ensures.ticks c.put.ensures.set c.put.ensures.recovered c.put.ensures.well_formed
    c.put.ensures.entries c.put.ensures.count c.put.ensures.lawful)

pub returns-in-Byte-clause-made : goal.returns-in-Byte-clause-made
returns-in-Byte-clause-made g c =
    made-store c.args.work.now.segment c.args.store (Byte c.in-Byte.address c.in-Byte.byte) _ _ _ _ _ c.in-Byte.is
    (made-byte c.args.work.now.segment c.in-Byte.address c.in-Byte.byte c.replaced-word.result _ _ _ _ _
    (c.replaced-word.ensures ∙ ap (λ x. with_byte c.in-Byte.address x c.in-Byte.byte) c.word.ensures)
    (made-word c.args.work.now.segment (word_address c.in-Byte.address) c.replaced-word.result _ _ _ _ _ c.requires.segment
    c.put-in-Byte.ensures.ticks c.put-in-Byte.ensures.set c.put-in-Byte.ensures.recovered c.put-in-Byte.ensures.well_formed
    c.put-in-Byte.ensures.entries c.put-in-Byte.ensures.count c.put-in-Byte.ensures.lawful))

pub returns-in-Link-clause-made : goal.returns-in-Link-clause-made
returns-in-Link-clause-made g c =
    made-store c.args.work.now.segment c.args.store (Link c.in-Link.address c.in-Link.word) _ _ _ _ _ c.in-Link.is
    (made-link c.args.work.now.segment c.in-Link.address c.in-Link.word _ _ _ _ _ c.requires.segment c.requires.well_formed
    (placed-as c.args.work.now.segment c.args.store (Link c.in-Link.address c.in-Link.word) c.in-Link.is c.requires.placed)
    c.write.ensures.memory c.write.ensures.tick c.write.ensures.off
    (on_err_weaker c.write.result
    (λ e. ap words_of e) c.write.ensures.kept) c.write.ensures.world_kept c.write.ensures.lawful)
