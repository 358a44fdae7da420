use Rattle.std.proofs.Common.{arith}
use Rattle.asm430.proofs.Entries.{data_next}
use Rattle.asm430.proofs.printed.push_data.Goals as goal

pub loop-word-preserved : goal.loop-word-preserved
loop-word-preserved c = record {
  same = data_next _ _ _ _ _ _ _ c.loop-word-test.true c.in_ok-push_datum.ensures c.loop-word.invariant.same;
  here = omega arith;
}
