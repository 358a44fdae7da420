use Rattle.std.proofs.Common.{◌≡◌, Some, None, slice_get, sym, arith}
use Rattle.std.proofs.lemmas.Grind.{common_steps}
use Rattle.ir_run.proofs.Finding.{steps_there, no_function, no_step}
use Rattle.ir_run.proofs.entering.at_step.Goals as goal

pub returns-in_default : goal.returns-in_default
returns-in_default c =
    let none : slice_get c.args.ir.now.functions c.args.function ≡ None = grind (arith, common_steps) in
    no_function c.args.ir.now c.args.readings.now c.args.function c.args.position _ c.args.run.now none

pub returns-in_default-step_of : goal.returns-in_default-step_of
returns-in_default-step_of c =
    let some : slice_get c.args.ir.now.functions c.args.function ≡ Some c.in-Some.of.now = sym c.in-Some.ensures in
    let none : slice_get c.in-Some.of.now.steps c.args.position ≡ None = grind (arith, common_steps) in
    no_step c.args.ir.now c.args.readings.now c.args.function c.args.position _ c.args.run.now c.in-Some.of.now some none

pub returns : goal.returns
returns c =
    let some : slice_get c.args.ir.now.functions c.args.function ≡ Some c.in-Some.of.now = sym c.in-Some.ensures in
    let step : slice_get c.in-Some.of.now.steps c.args.position ≡ Some c.in-Some-step_of.step.now =
    sym c.in-Some-step_of.ensures in
    steps_there c.args.ir.now c.args.readings.now c.args.function c.args.position _ c.args.run.now c.in-Some.of.now
    c.in-Some-step_of.step.now c.act.result c.act.new.run some step c.act.ensures
