use Rattle.codegen.proofs.Turns.{tables_more}
use Rattle.codegen.proofs.tables.add_tables.Goals as goal

pub loop-at-preserved : goal.loop-at-preserved
loop-at-preserved c =
    tables_more _ _ _ c.args.core.now c.as_slice-tables.result.now c.loop-at.at _ c.index-tables-at.result _ c.loop-at-test.true
    c.index-tables-at.is c.as_slice-rows.ensures c.in_ok-number.ensures c.loop-at.invariant c.in_ok-add_table.ensures
