-- The three writes of an entry, as far as they came.
use Rattle.std.proofs.Common.{◌≡◌, ◌<◌, ◌∙◌, ap, arith}
use Rattle.std.proofs.lemmas.Result.{on_ok_weaker, on_err_weaker}
use Rattle.base16.specs.Memory.{words_of}
use Rattle.board_map.specs.Map.{count_address, count_of}
use Rattle.undo_log.specs.Log.{Prepares}
use Rattle.fram.proofs.Outcomes.{always_err}
use Rattle.undo_log.proofs.LogLemmas.{prepares-none, log_first, log_second, log_third, prepares-join}
use Rattle.undo_log.proofs.storing.log.Goals as goal

pub returns-in_err-write-clause-off : goal.returns-in_err-write-clause-off
returns-in_err-write-clause-off g c =
    always_err c.from_residual.result (prepares-none (words_of c.args.fram.now.words) (words_of c.write.new.self.words)
    c.requires.well_formed (ap words_of c.in_err-write.ensures.kept))

pub returns-in_err-write-2-clause-off : goal.returns-in_err-write-2-clause-off
returns-in_err-write-2-clause-off g c =
    let m = words_of c.args.fram.now.words in
    let n : c.count-entries.result ≡ count_of m = c.count-entries.ensures ∙ ap (λ s. m (count_address s)) c.gate-slot.ensures in
    let room : c.count-entries.result < 256 = omega (arith, n, c.requires.room) in
    let k : Prepares m (words_of c.write.new.self.words) = log_first m (words_of c.write.new.self.words)
    c.count-entries.result c.args.address c.requires.well_formed n room c.in_ok-write.ensures.memory in
    always_err c.from_residual-in_err-write-2.result (prepares-join k
    (prepares-none (words_of c.write.new.self.words) (words_of c.write-2.new.self.words) k.well_formed
    (ap words_of c.in_err-write-2.ensures.kept)))

pub returns-clause-logged : goal.returns-clause-logged
returns-clause-logged g c =
    let m = words_of c.args.fram.now.words in
    let n : c.count-entries.result ≡ count_of m = c.count-entries.ensures ∙ ap (λ s. m (count_address s)) c.gate-slot.ensures in
    let room : c.count-entries.result < 256 = omega (arith, n, c.requires.room) in
    on_ok_weaker c.write-3.result
    (log_third m (words_of c.write.new.self.words) (words_of c.write-2.new.self.words) (words_of c.write-3.new.self.words)
    c.count-entries.result c.gate-slot.result c.args.address c.word-old.result
    c.requires.well_formed n room c.gate-slot.ensures c.requires.loggable c.requires.outside c.word-old.ensures
    c.in_ok-write.ensures.memory c.in_ok-write-2.ensures.memory)
    c.write-3.ensures.memory

pub returns-clause-off : goal.returns-clause-off
returns-clause-off g c =
    let m = words_of c.args.fram.now.words in
    let n : c.count-entries.result ≡ count_of m = c.count-entries.ensures ∙ ap (λ s. m (count_address s)) c.gate-slot.ensures in
    let room : c.count-entries.result < 256 = omega (arith, n, c.requires.room) in
    let k1 : Prepares m (words_of c.write.new.self.words) = log_first m (words_of c.write.new.self.words)
    c.count-entries.result c.args.address c.requires.well_formed n room c.in_ok-write.ensures.memory in
    let k2 : Prepares m (words_of c.write-2.new.self.words) =
    log_second m (words_of c.write.new.self.words) (words_of c.write-2.new.self.words) c.count-entries.result
    c.word-old.result k1 n room c.in_ok-write-2.ensures.memory in
    on_err_weaker c.write-3.result (λ (e : c.write-3.new.self.words ≡ c.write-2.new.self.words). prepares-join k2
    (prepares-none (words_of c.write-2.new.self.words) (words_of c.write-3.new.self.words) k2.well_formed
    (ap words_of e))) c.write-3.ensures.kept
