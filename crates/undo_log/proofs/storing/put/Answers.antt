-- A word of the working segment, of which the slot has a copy.
use Rattle.std.proofs.Common.{◌≡◌, ◌∙◌, ℕ, ◌<◌, ◌≤◌, ap, arith}
use Rattle.std.proofs.lemmas.Result.{on_ok_weaker, on_err_weaker}
use Rattle.base16.specs.Board.{segment_start, segment_top}
use Rattle.base16.specs.Memory.{words_of}
use Rattle.board_map.specs.Map.{segment_of}
use Rattle.board_map.specs.Recovered.{recovered}
use Rattle.base16.proofs.Writes.{put-other}
use Rattle.fram.proofs.Outcomes.{either}
use Rattle.undo_log.proofs.LogLemmas.{written}
use Rattle.undo_log.proofs.storing.put.Goals as goal

pub returns-then-address-start-2-clause-recovered : goal.returns-then-address-start-2-clause-recovered
returns-then-address-start-2-clause-recovered g c =
    let m = words_of c.args.fram.now.words in
    let s : c.args.work.now.segment ≡ segment_of m = c.requires.segment in
    let low : segment_start (segment_of m) ≤ c.args.address = omega arith in
    let high : c.args.address < segment_top (segment_of m) = omega arith in
    either c.write.result
    (on_ok_weaker c.write.result (λ e. (written m (words_of c.write.new.self.words) c.args.address c.args.word
    c.requires.well_formed low high e).recovered) c.write.ensures.memory)
    (on_err_weaker c.write.result (λ (e : c.write.new.self.words ≡ c.args.fram.now.words). ap (λ ws. recovered (words_of ws))
    e) c.write.ensures.kept)

pub returns-then-address-start-2-clause-others : goal.returns-then-address-start-2-clause-others
returns-then-address-start-2-clause-others g c = λ b h.
    either c.write.result
    (on_ok_weaker c.write.result (λ e. ap (λ (f : ℕ → ℕ). f b) e
    ∙ put-other (words_of c.args.fram.now.words) c.args.address c.args.word b h.place) c.write.ensures.memory)
    (on_err_weaker c.write.result (λ (e : c.write.new.self.words ≡ c.args.fram.now.words). ap (λ ws. words_of ws b) e)
    c.write.ensures.kept)
