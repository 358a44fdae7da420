use Rattle.std.proofs.Common.{◌∙◌, arith}
use Rattle.select430.proofs.Stamps.{stamp_step}
use Rattle.select430.proofs.frames.stamp_in.Goals as goal

pub loop-global-preserved : goal.loop-global-preserved
loop-global-preserved c = record {
  value =
      stamp_step c.args.globals.now c.loop-global.global-index c.loop-global.left c.loop-global.before c.stamps_of.result c.global-item.result c.args.offset c.loop-global-test.true c.global-item.is (omega arith) c.stamps_of.ensures
      ∙ c.loop-global.invariant.value;
  range = omega arith;
}
