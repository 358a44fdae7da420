-- One word is written in each turn.
use Rattle.std.proofs.Common.{◌∙◌, subst, sym, arith}
use Rattle.base16.specs.Memory.{words_of}
use Rattle.ckpt.specs.Slot.{Fills}
use Rattle.world.specs.World.{Spends-join}
use Rattle.ckpt.proofs.SlotLemmas.{fill_step, fill_none}
use Rattle.ckpt.proofs.committing.fill.Goals as goal

pub returns-in_err-write-clause-kept : goal.returns-in_err-write-clause-kept
returns-in_err-write-clause-kept g c =
    subst (λ ws. Fills c.args.slot c.args.regs.now.r c.args.state.now 0 (words_of c.args.fram.now.words) (words_of ws))
    (sym c.in_err-write.ensures.kept)
    (fill_none (words_of c.args.fram.now.words) (words_of c.loop-index.fram.words) c.args.slot c.args.regs.now.r
    c.args.state.now c.loop-index.index c.loop-index.invariant.filled)

pub loop-index-preserved : goal.loop-index-preserved
loop-index-preserved g c = record {
  filled = fill_step (words_of c.args.fram.now.words) (words_of c.loop-index.fram.words) (words_of c.write.new.self.words)
      c.args.slot c.args.regs.now.r c.args.state.now c.loop-index.index c.value-word.result
      c.loop-index.invariant.filled (omega (arith, c.loop-index-test.true)) c.requires.other c.value-word.ensures
      c.in_ok-write.ensures.memory;
  ticks = Spends-join c.loop-index.invariant.ticks c.in_ok-write.ensures.tick;
  poked = c.write.ensures.poked ∙ c.loop-index.invariant.poked;
}
