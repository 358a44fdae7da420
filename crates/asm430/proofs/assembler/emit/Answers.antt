-- One item more.
use Rattle.asm430.proofs.Steps.{filler, formed_next, ready_next, emit_step, within_step}
use Rattle.asm430.proofs.assembler.emit.Goals as goal

pub words_of-place-requires : goal.words_of-place-requires
words_of-place-requires c = (formed_next _ _ _ c.loop-item-test.true c.loop-item.invariant.formed).0

pub push_item-requires-clause-ready : goal.push_item-requires-clause-ready
push_item-requires-clause-ready c = (ready_next _ _ _ _ _ c.loop-item-test.true c.loop-item.invariant.ready).0

pub loop-item-preserved : goal.loop-item-preserved
loop-item-preserved c = record {
  same = emit_step _ _ _ filler _ _ _ _ _ c.loop-item-test.true c.in_ok-push_item.ensures c.words_of-place.ensures.value c.loop-item.invariant.same;
  formed = (formed_next _ _ filler c.loop-item-test.true c.loop-item.invariant.formed).1;
  ready = rw c.words_of-place.ensures.value (ready_next _ _ _ filler _ c.loop-item-test.true c.loop-item.invariant.ready).1;
  within = within_step _ _ filler _ _ _ c.loop-item-test.true c.words_of-place.ensures.value c.loop-item.invariant.within;
}
