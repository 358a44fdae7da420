use Rattle.std.proofs.Common.{◌≡◌, max, take}
use Rattle.c_tree.specs.Measure as spec
use Rattle.c_tree.proofs.measure_statements.+statement_extent.Given as goal

abbrev pub invariant-items_extent-loop-item : goal.invariant-items_extent-loop-item
invariant-items_extent-loop-item l = record {
  nodes : l.sum.nodes ≡ spec.capped (spec.all spec.sum (spec.block_item_measure spec.sum) (take l.item-index l.all));
  height : l.sum.height ≡ spec.capped (spec.all max (spec.block_item_measure max) (take l.item-index l.all));
}

abbrev pub invariant-groups_extent-loop-group : goal.invariant-groups_extent-loop-group
invariant-groups_extent-loop-group l = record {
  nodes : l.sum.nodes ≡ spec.capped (spec.all spec.sum (spec.group_measure spec.sum) (take l.group-index l.all));
  height : l.sum.height ≡ spec.capped (spec.all max (spec.group_measure max) (take l.group-index l.all));
}

abbrev pub invariant-statements_extent-loop-statement : goal.invariant-statements_extent-loop-statement
invariant-statements_extent-loop-statement l = record {
  nodes : l.sum.nodes ≡ spec.capped (spec.all spec.sum (spec.statement_measure spec.sum) (take l.statement-index l.all));
  height : l.sum.height ≡ spec.capped (spec.all max (spec.statement_measure max) (take l.statement-index l.all));
}
