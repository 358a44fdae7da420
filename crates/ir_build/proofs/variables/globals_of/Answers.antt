use Rattle.std.proofs.Common.{ℕ, ◌+◌, ◌∙◌, ap}
use Rattle.ir_build.specs.Laying.{variables_from}
use Rattle.ir_build.proofs.Placing.{globals_done, variables_step}
use Rattle.ir_build.proofs.variables.globals_of.Goals as goal

pub loop-global-preserved : goal.loop-global-preserved
loop-global-preserved c =
    variables_step c.args.core.now.structs c.args.core.now.globals c.loop-global.global-index c.global-item.result
    c.in_ok-laid.laid c.loop-global.all c.push.new.self c.loop-global.bytes c.in_ok-start.start c.in_ok-bytes.bytes
    (variables_from c.args.core.now.structs 0 c.args.core.now.globals) c.in_ok-variable.field-0
    (rw (← c.as_slice-global-items.ensures) c.loop-global-test.true)
    (rw (← c.as_slice-global-items.ensures) c.global-item.is) c.loop-global.invariant
    (rw (← c.as_slice-structs.ensures) c.in_ok-laid.ensures) c.in_ok-start.ensures
    (c.in_ok-bytes.ensures ∙ ap (λ (n : ℕ). c.in_ok-start.start + n) c.from.ensures)
    (rw (← c.as_slice-structs.ensures) c.in_ok-variable.ensures) c.in_ok-push.ensures.ok

pub returns : goal.returns
returns c =
    globals_done c.args.core.now c.loop-global.all c.loop-global.bytes c.loop-global.global-index c.loop-global.invariant
    (rw (← c.as_slice-global-items.ensures) c.loop-global-test.false)
