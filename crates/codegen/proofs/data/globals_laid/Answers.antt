use Rattle.codegen.proofs.Standing.{laid_turn}
use Rattle.codegen.proofs.data.globals_laid.Goals as goal

pub loop-variable-preserved : goal.loop-variable-preserved
loop-variable-preserved c =
    laid_turn c.args.core.now c.loop-variable.variable-index c.variable-item.result c.loop-variable.all c.push.new.self
    c.in_ok-small_type_laid.field-0 (rw (← c.as_slice-variable-items.ensures) c.loop-variable-test.true)
    (rw (← c.as_slice-variable-items.ensures) c.variable-item.is) c.loop-variable.invariant
    (rw (← c.as_slice-structs.ensures) c.in_ok-small_type_laid.ensures) c.in_ok-push.ensures.ok
