use Rattle.std.proofs.Common.{ap, arith, max}
use Rattle.c_tree.specs.Measure as spec
use Rattle.c_tree.proofs.Sums.{sum_more, max_more}
use Rattle.c_tree.proofs.extent.extent_of_all.Goals as goal

pub loop-part-preserved : goal.loop-part-preserved
loop-part-preserved g c =
    let own = g.T.Measured.measure in
    record {
      nodes = omega (
        arith,
        sum_more (own spec.sum) c.args.parts.now c.loop-part.part-index c.part-item.result c.loop-part-test.true,
        ap (own spec.sum) c.part-item.is,
        c.extent.ensures.nodes,
      );
      height = omega (
        arith,
        max_more (own max) c.args.parts.now c.loop-part.part-index c.part-item.result c.loop-part-test.true,
        ap (own max) c.part-item.is,
        c.extent.ensures.height,
      );
    }
