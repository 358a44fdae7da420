use Rattle.std.proofs.Common.{ap, arith, max}
use Rattle.c_tree.specs.Measure as spec
use Rattle.std.proofs.lemmas.Grind.{common_steps}
use Rattle.c_tree.proofs.StatementMeasures.{measure-Group}
use Rattle.c_tree.proofs.Sums.{sum_more, max_more}
use Rattle.c_tree.proofs.measure_statements.+statement_extent.Goals as goal

pub items_extent-loop-item-preserved : goal.items_extent-loop-item-preserved
items_extent-loop-item-preserved t c = record {
  nodes = omega (
    arith,
    sum_more (spec.block_item_measure spec.sum) c.args.all.now c.loop-item.item-index c.item-item.result
        c.loop-item-test.true,
    ap (spec.block_item_measure spec.sum) c.item-item.is,
  );
  height = omega (
    arith,
    max_more (spec.block_item_measure max) c.args.all.now c.loop-item.item-index c.item-item.result
        c.loop-item-test.true,
    ap (spec.block_item_measure max) c.item-item.is,
  );
}

pub groups_extent-loop-group-preserved : goal.groups_extent-loop-group-preserved
groups_extent-loop-group-preserved t c = record {
  nodes = omega (
    arith,
    sum_more (spec.group_measure spec.sum) c.args.all.now c.loop-group.group-index c.group-item.result
        c.loop-group-test.true,
    ap (spec.group_measure spec.sum) c.group-item.is,
  );
  height = omega (
    arith,
    max_more (spec.group_measure max) c.args.all.now c.loop-group.group-index c.group-item.result
        c.loop-group-test.true,
    ap (spec.group_measure max) c.group-item.is,
  );
}

pub statements_extent-loop-statement-preserved : goal.statements_extent-loop-statement-preserved
statements_extent-loop-statement-preserved t c = record {
  nodes = omega (
    arith,
    sum_more (spec.statement_measure spec.sum) c.args.all.now c.loop-statement.statement-index
        c.statement-item.result c.loop-statement-test.true,
    ap (spec.statement_measure spec.sum) c.statement-item.is,
  );
  height = omega (
    arith,
    max_more (spec.statement_measure max) c.args.all.now c.loop-statement.statement-index
        c.statement-item.result c.loop-statement-test.true,
    ap (spec.statement_measure max) c.statement-item.is,
  );
}

pub group_extent-returns-clause-nodes : goal.group_extent-returns-clause-nodes
group_extent-returns-clause-nodes t c = grind (arith, common_steps, measure-Group spec.sum c.args.group.now)

pub group_extent-returns-clause-height : goal.group_extent-returns-clause-height
group_extent-returns-clause-height t c = grind (arith, common_steps, measure-Group max c.args.group.now)
