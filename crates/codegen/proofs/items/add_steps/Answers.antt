use Rattle.std.proofs.Common.{◌<◌, length, arith}
use Rattle.codegen.proofs.Turns.{steps_more}
use Rattle.codegen.proofs.items.add_steps.Goals as goal

pub loop-step-preserved : goal.loop-step-preserved
loop-step-preserved c =
    let below : c.loop-step.step < length c.args.of.now.steps = omega arith in
    steps_more _ _ _ c.args.ir.now c.args.of.now c.args.function c.loop-step.step c.requires.there below
    c.loop-step.invariant c.in_ok-add_step.ensures
