use Rattle.std.proofs.Common.{refl, ◌∙◌}
use Rattle.codegen.proofs.Coding.{stamp_first, stamp_next, stamps_step}
use Rattle.codegen.proofs.data.push_stamps.Goals as goal

pub loop-stamp-init : goal.loop-stamp-init
loop-stamp-init c = record { same = refl; here = c.requires ∙ stamp_first c.args._core.now }

pub loop-stamp-preserved : goal.loop-stamp-preserved
loop-stamp-preserved c = record {
  same = stamps_step c.args._core.now c.args.stamps.now c.loop-stamp.stamp-index _ c.stamp_code-code.result c.loop-stamp.low
      c.in_ok-high.high c.word.result c.word-in-loop-stamp.result _ c.loop-stamp.into c.push.new.self
      c.push-in-loop-stamp.new.self c.loop-stamp-test.true c.stamp_code-code.ensures c.loop-stamp.invariant.here
      c.in_ok-high.ensures c.word.ensures c.word-in-loop-stamp.ensures c.loop-stamp.invariant.same c.in_ok-push.ensures.ok
      c.in_ok-push-2.ensures.ok;
  here = stamp_next c.args._core.now c.loop-stamp.stamp-index c.loop-stamp.low c.in_ok-low.low c.loop-stamp.invariant.here
      c.in_ok-low.ensures;
}
