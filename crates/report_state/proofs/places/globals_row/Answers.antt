use Rattle.report_state.proofs.Rows.{globals_more}
use Rattle.report_state.proofs.places.globals_row.Goals as goal

pub loop-variable-preserved : goal.loop-variable-preserved
loop-variable-preserved c =
    globals_more c.args.core.now c.args.variables.now c.loop-variable.variable-index c.variable-item.result c.loop-variable.row
    c.push.new.self c.in_ok-small_type_laid.field-0 c.as_slice-structs.result.now c.loop-variable-test.true c.variable-item.is
    c.as_slice-structs.ensures c.loop-variable.invariant c.in_ok-small_type_laid.ensures c.in_ok-push.ensures.ok
