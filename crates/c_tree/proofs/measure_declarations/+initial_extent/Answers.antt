use Rattle.std.proofs.Common.{ap, arith, max}
use Rattle.c_tree.specs.Measure as spec
use Rattle.c_tree.proofs.Sums.{sum_more, max_more}
use Rattle.c_tree.proofs.measure_declarations.+initial_extent.Goals as goal

pub initials_extent-loop-initial-preserved : goal.initials_extent-loop-initial-preserved
initials_extent-loop-initial-preserved t c = record {
  nodes = omega (
    arith,
    sum_more (spec.initial_measure spec.sum) c.args.all.now c.loop-initial.initial-index
        c.initial-item.result c.loop-initial-test.true,
    ap (spec.initial_measure spec.sum) c.initial-item.is,
  );
  height = omega (
    arith,
    max_more (spec.initial_measure max) c.args.all.now c.loop-initial.initial-index c.initial-item.result
        c.loop-initial-test.true,
    ap (spec.initial_measure max) c.initial-item.is,
  );
}
