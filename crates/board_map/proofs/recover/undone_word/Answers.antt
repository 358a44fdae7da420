-- The first entry for the address counts, or there is none.
use Rattle.std.proofs.Common.{◌≡◌, sym, ◌∙◌, ap, arith}
use Rattle.board_map.specs.Map.{count_address, count_of}
use Rattle.board_map.proofs.Undoing.{undone-read, undone-unlogged}
use Rattle.board_map.proofs.recover.undone_word.Goals as goal

pub returns-then-at-address : goal.returns-then-at-address
returns-then-at-address g c =
    let m = g.M.Words.words c.args.words.now in
    let n : c.count-index-end.result ≡ count_of m = c.count-index-end.ensures ∙ ap (λ s. m (count_address s)) c.gate.ensures in
    undone-read m c.args.address c.loop-index.index c.count-index-end.result c.undo_entry-at.result.0 c.undo_entry-at.result.1
    n c.loop-index-test.true c.undo_entry-at.ensures.address c.undo_entry-at.ensures.old c.if-at-address.true
    c.loop-index.invariant

pub returns : goal.returns
returns g c =
    let m = g.M.Words.words c.args.words.now in
    let n : c.count-index-end.result ≡ count_of m = c.count-index-end.ensures ∙ ap (λ s. m (count_address s)) c.gate.ensures in
    c.word.ensures ∙ sym (undone-unlogged m c.args.address (λ i l. c.loop-index.invariant i
    (omega (arith, n, l, c.loop-index-test.false))))
