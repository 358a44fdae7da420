use Rattle.codegen.proofs.Turns.{functions_more, starts_more}
use Rattle.codegen.proofs.items.add_functions.Goals as goal

pub loop-number-preserved : goal.loop-number-preserved
loop-number-preserved c = record {
  items = functions_more _ _ _ c.args.ir.now c.as_slice-functions.result.now c.loop-number.number
      c.index-functions-number.result c.loop-number-test.true c.index-functions-number.is c.loop-number.invariant.items
      c.in_ok-add_function.ensures;
  starts = starts_more c.args.made.now c.loop-number.made c.args.ir.now c.as_slice-functions.result.now c.loop-number.number
      c.index-functions-number.result _ _ _ c.loop-number-test.true c.loop-number.invariant.items
      c.loop-number.invariant.starts c.in_ok-push.ensures.items;
}
