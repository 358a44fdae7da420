-- One item more.
use Rattle.std.proofs.Common.{arith}
use Rattle.asm430.proofs.Steps.{filler, formed_next, far_step}
use Rattle.asm430.proofs.faults.first_far.Goals as goal

pub words_of-place-requires : goal.words_of-place-requires
words_of-place-requires c = (formed_next _ _ _ c.loop-item-test.true c.loop-item.invariant.formed).0

pub loop-item-preserved : goal.loop-item-preserved
loop-item-preserved c = record {
  same = far_step _ _ _ filler _ _ _ _ _ _ c.loop-item-test.true c.far-fault.ensures c.is_some.ensures c.if-is_some.false
      c.words_of-place.ensures.value c.loop-item.invariant.same;
  formed = (formed_next _ _ filler c.loop-item-test.true c.loop-item.invariant.formed).1;
  counted = omega arith;
  small = omega arith;
}
