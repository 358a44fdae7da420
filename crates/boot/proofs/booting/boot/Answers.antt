-- The rollback, the copy, and then the count.
use Rattle.std.proofs.Common.{◌∙◌, ap, subst}
use Rattle.base16.specs.Memory.{words_of}
use Rattle.board_map.specs.Map.{gate_address}
use Rattle.board_map.specs.Recovered.{Machine, recovered}
use Rattle.boot.specs.Restoring.{IsWork}
use Rattle.boot.proofs.RestoreLemmas.{Restored, restored, gate_unlogged, cut_short, spends_all}
use Rattle.boot.proofs.booting.boot.Goals as goal

pub returns-in_err-rollback-clause-others : goal.returns-in_err-rollback-clause-others
returns-in_err-rollback-clause-others g c = λ b l. c.rollback.ensures.others b l.entry

pub returns-in_err-copy_segment-clause-others : goal.returns-in_err-copy_segment-clause-others
returns-in_err-copy_segment-clause-others g c = λ b l.
    cut_short (words_of c.args.fram.now.words) (words_of c.rollback.new.fram.words) (words_of c.copy_segment.new.fram.words) b
    c.rollback.ensures.recovered c.rollback.ensures.others c.copy_segment.ensures.kept l

pub returns-in_err-write-clause-others : goal.returns-in_err-write-clause-others
returns-in_err-write-clause-others g c = λ b l.
    ap (λ ws. words_of ws b) c.in_err-write.ensures.kept
    ∙ cut_short (words_of c.args.fram.now.words) (words_of c.rollback.new.fram.words) (words_of c.copy_segment.new.fram.words)
    b c.rollback.ensures.recovered c.rollback.ensures.others c.copy_segment.ensures.kept l

pub returns-in_err-copy_segment-clause-recovered : goal.returns-in_err-copy_segment-clause-recovered
returns-in_err-copy_segment-clause-recovered g c = c.copy_segment.ensures.kept.recovered ∙ c.rollback.ensures.recovered

pub returns-in_err-write-clause-recovered : goal.returns-in_err-write-clause-recovered
returns-in_err-write-clause-recovered g c =
    ap (λ ws. recovered (words_of ws)) c.in_err-write.ensures.kept ∙ c.copy_segment.ensures.kept.recovered
    ∙ c.rollback.ensures.recovered

pub returns : goal.returns
returns g c =
    let h : Restored (words_of c.args.fram.now.words) (words_of c.write.new.self.words) =
    restored (words_of c.args.fram.now.words) (words_of c.rollback.new.fram.words) (words_of c.copy_segment.new.fram.words)
    (words_of c.write.new.self.words) c.gate-slot.result
    (record {
      undone = c.in_ok-rollback.ensures.undone;
      others = c.rollback.ensures.others;
      gate = c.rollback.ensures.others gate_address (gate_unlogged (words_of c.args.fram.now.words) c.requires);
      recovered = c.rollback.ensures.recovered;
      copies = c.in_ok-copy_segment.ensures.copied;
    }) c.gate-slot.ensures c.in_ok-write.ensures.memory in
    record {
      ticks = spends_all c.in_ok-rollback.ensures.ticks c.in_ok-copy_segment.ensures.ticks c.in_ok-write.ensures.tick;
      registers = λ k l. c.registers-regs.ensures k l ∙ ap (λ (machine : Machine). machine.registers k) h.recovered;
      work = subst (IsWork c.work_of-work.result) h.recovered c.work_of-work.ensures.work;
      since = c.work_of-work.ensures.since ∙ c.spent.ensures.value;
      memory = h.memory;
      rest = h.rest;
      others = h.others;
      no_entries = h.count;
      entries = tt;
      recovered = h.recovered;
      well_formed = h.well_formed;
      poked = c.write.ensures.poked ∙ c.copy_segment.ensures.poked ∙ c.rollback.ensures.poked;
      lawful = c.write.ensures.lawful;
    }
