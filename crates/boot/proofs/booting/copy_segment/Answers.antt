-- One word is copied in each turn.
use Rattle.std.proofs.Common.{◌∙◌, ap}
use Rattle.base16.specs.Memory.{words_of}
use Rattle.boot.proofs.CopyLemmas.{copy_none, copy_step}
use Rattle.world.specs.World.{Spends-join}
use Rattle.boot.proofs.booting.copy_segment.Goals as goal

pub returns-in_err-write-clause-kept : goal.returns-in_err-write-clause-kept
returns-in_err-write-clause-kept g c =
    copy_none (words_of c.args.fram.now.words) (words_of c.loop-index.fram.words) (words_of c.write.new.self.words)
    c.loop-index.index c.loop-index.invariant.copied (ap words_of c.in_err-write.ensures.kept)

pub loop-index-preserved : goal.loop-index-preserved
loop-index-preserved g c = record {
  copied = copy_step (words_of c.args.fram.now.words) (words_of c.loop-index.fram.words) (words_of c.write.new.self.words)
      c.loop-index.index c.gate-slot.result c.slot_word.result c.slot_word-word.result
      c.requires c.loop-index.invariant.copied c.loop-index-test.true c.gate-slot.ensures c.slot_word.ensures
      c.slot_word-word.ensures c.in_ok-write.ensures.memory;
  ticks = Spends-join c.loop-index.invariant.ticks c.in_ok-write.ensures.tick;
  poked = c.write.ensures.poked ∙ c.loop-index.invariant.poked;
}
