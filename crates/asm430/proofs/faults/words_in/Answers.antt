-- One item more.
use Rattle.std.proofs.Common.{arith}
use Rattle.asm430.proofs.Steps.{filler, formed_next, within_step}
use Rattle.asm430.proofs.faults.words_in.Goals as goal

pub words_of-words-requires : goal.words_of-words-requires
words_of-words-requires c = (formed_next _ _ _ c.loop-item-test.true c.loop-item.invariant.formed).0

pub loop-item-preserved : goal.loop-item-preserved
loop-item-preserved c = record {
  formed = (formed_next _ _ filler c.loop-item-test.true c.loop-item.invariant.formed).1;
  before = within_step _ _ filler _ _ _ c.loop-item-test.true c.words_of-words.ensures.value c.loop-item.invariant.before;
  small = omega arith;
}
