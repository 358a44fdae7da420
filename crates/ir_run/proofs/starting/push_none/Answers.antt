use Rattle.std.proofs.Common.{arith}
use Rattle.ir_run.proofs.Starts.{none_more}
use Rattle.ir_run.proofs.starting.push_none.Goals as goal

pub loop-stamp-preserved : goal.loop-stamp-preserved
loop-stamp-preserved c = none_more _ _ _ _ _ c.loop-stamp.invariant (omega arith) c.in_ok-push.ensures.ok
