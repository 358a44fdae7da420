use Rattle.std.proofs.Common.{arith}
use Rattle.ir_run.proofs.Starts.{kinds_more}
use Rattle.ir_run.proofs.calls.param_kinds.Goals as goal

pub loop-at-preserved : goal.loop-at-preserved
loop-at-preserved c =
    kinds_more _ c.loop-at.kinds c.push.new.self c.args.function.now.locals c.as_slice-local-items.result.now
    c.args.function.now.params c.loop-at.at c.local-item.result c.first_kind.result c.loop-at.invariant
    c.as_slice-local-items.ensures c.loop-at-test.true c.local-item.is (omega arith) c.first_kind.ensures
    c.in_ok-push.ensures.ok
