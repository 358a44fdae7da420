-- The first entry for the address counts, or there is none.
use Rattle.std.proofs.Common.{◌+◌, ◌∙◌, sym, arith}
use Rattle.base16.specs.Memory.{words_of}
use Rattle.board_map.specs.Map.{undo_address}
use Rattle.display.proofs.Before.{put_back-first, put_back-unlogged}
use Rattle.display.proofs.log.word_before.Goals as goal

pub returns-then-at-address : goal.returns-then-at-address
returns-then-at-address c =
    let m = words_of c.args.fram.now.words in
    c.undo_entry-at.ensures.old ∙ sym (put_back-first (λ i. m (undo_address i)) (λ i. m (undo_address i + 2)) c.args.log m
    c.args.address c.loop-index.index c.loop-index-test.true
    (sym c.undo_entry-at.ensures.address ∙ c.if-at-address.true) c.loop-index.invariant)

pub returns : goal.returns
returns c =
    let m = words_of c.args.fram.now.words in
    c.get.ensures.memory ∙ sym (put_back-unlogged (λ i. m (undo_address i)) (λ i. m (undo_address i + 2)) c.args.log m
    c.args.address (λ i l. c.loop-index.invariant i (omega (arith, l, c.loop-index-test.false))))
