use Rattle.std.proofs.Common.{ap, arith}
use Rattle.core_tree.specs.Costs.{each, function_rows}
use Rattle.core_tree.specs.Nodes.{function_nodes}
use Rattle.core_tree.proofs.Sums.{total_more}
use Rattle.core_tree.proofs.totals.functions_measure.Goals as goal

pub loop-function-preserved : goal.loop-function-preserved
loop-function-preserved c = record {
  cost = omega (
    arith,
    total_more (function_rows each) c.args.functions.now c.loop-function.function-index c.function-item.result c.loop-function-test.true,
    ap (function_rows each) c.function-item.is,
  );
  nodes = omega (
    arith,
    total_more function_nodes c.args.functions.now c.loop-function.function-index c.function-item.result c.loop-function-test.true,
    ap function_nodes c.function-item.is,
  );
}
