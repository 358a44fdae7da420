-- The entry, and then the word that has it.
use Rattle.std.proofs.Common.{◌≡◌, ◌∙◌, ap}
use Rattle.std.proofs.lemmas.Result.{on_ok_weaker, on_err_weaker}
use Rattle.base16.specs.Memory.{words_of}
use Rattle.board_map.specs.Recovered.{recovered}
use Rattle.fram.proofs.Outcomes.{either}
use Rattle.undo_log.proofs.LogLemmas.{store_done}
use Rattle.undo_log.proofs.storing.store.Goals as goal

pub returns-clause-set : goal.returns-clause-set
returns-clause-set g c =
    on_ok_weaker c.write.result (λ e. (store_done (words_of c.args.fram.now.words) (words_of c.log.new.fram.words)
    (words_of c.write.new.self.words) c.args.address c.args.word c.in_ok-log.ensures.logged c.requires.loggable e).set)
    c.write.ensures.memory

pub returns-clause-recovered : goal.returns-clause-recovered
returns-clause-recovered g c =
    either c.write.result
    (on_ok_weaker c.write.result (λ e. (store_done (words_of c.args.fram.now.words) (words_of c.log.new.fram.words)
    (words_of c.write.new.self.words) c.args.address c.args.word c.in_ok-log.ensures.logged c.requires.loggable
    e).recovered) c.write.ensures.memory)
    (on_err_weaker c.write.result (λ (e : c.write.new.self.words ≡ c.log.new.fram.words). ap (λ ws. recovered (words_of ws)) e
    ∙ c.in_ok-log.ensures.logged.recovered) c.write.ensures.kept)

pub returns-clause-entry : goal.returns-clause-entry
returns-clause-entry g c = on_ok_weaker c.write.result (λ e. (store_done (words_of c.args.fram.now.words)
    (words_of c.log.new.fram.words) (words_of c.write.new.self.words) c.args.address c.args.word c.in_ok-log.ensures.logged
    c.requires.loggable e).entry) c.write.ensures.memory

pub returns-clause-others : goal.returns-clause-others
returns-clause-others g c = λ b h.
    either c.write.result
    (on_ok_weaker c.write.result (λ e. (store_done (words_of c.args.fram.now.words) (words_of c.log.new.fram.words)
    (words_of c.write.new.self.words) c.args.address c.args.word c.in_ok-log.ensures.logged c.requires.loggable e).others
    b h) c.write.ensures.memory)
    (on_err_weaker c.write.result (λ (e : c.write.new.self.words ≡ c.log.new.fram.words). ap (λ ws. words_of ws b) e
    ∙ c.in_ok-log.ensures.logged.others b h.entry h.old h.count) c.write.ensures.kept)

pub returns-in_err-log-clause-others : goal.returns-in_err-log-clause-others
returns-in_err-log-clause-others g c = λ b h. c.in_err-log.ensures.off.others b h.entry h.old
