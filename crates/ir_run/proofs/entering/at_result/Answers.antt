use Rattle.std.proofs.Common.{◌≡◌, Some, None, slice_get, sym, arith}
use Rattle.std.proofs.lemmas.Grind.{common_steps}
use Rattle.ir_run.proofs.Finding.{result_there, no_result, no_function, no_step}
use Rattle.ir_run.proofs.entering.at_result.Goals as goal

pub returns-in_default : goal.returns-in_default
returns-in_default c =
    let none : slice_get c.args.ir.now.functions c.args.caller.function ≡ None = grind (arith, common_steps) in
    no_function c.args.ir.now c.args.readings.now c.args.caller.function c.args.caller.position _ c.args.run.now none

pub returns-in_default-step_of : goal.returns-in_default-step_of
returns-in_default-step_of c =
    let some : slice_get c.args.ir.now.functions c.args.caller.function ≡ Some c.in-Some.of.now = sym c.in-Some.ensures in
    let none : slice_get c.in-Some.of.now.steps c.args.caller.position ≡ None = grind (arith, common_steps) in
    no_step c.args.ir.now c.args.readings.now c.args.caller.function c.args.caller.position _ c.args.run.now c.in-Some.of.now
    some none

pub returns-in-Result : goal.returns-in-Result
returns-in-Result c =
    let some : slice_get c.args.ir.now.functions c.args.caller.function ≡ Some c.in-Some.of.now = sym c.in-Some.ensures in
    let step : slice_get c.in-Some.of.now.steps c.args.caller.position ≡ Some c.in-Some-step_of.step.now =
    sym c.in-Some-step_of.ensures in
    result_there c.args.ir.now c.args.readings.now c.args.value c.args.caller c.args.below c.args.run.now c.in-Some.of.now
    c.in-Some-step_of.step.now c.in-Result.depth c.in-Result.kept c.take_result.result c.args.run.now some step c.in-Result.is
    c.take_result.ensures

pub returns-in_default-kind : goal.returns-in_default-kind
returns-in_default-kind c =
    let some : slice_get c.args.ir.now.functions c.args.caller.function ≡ Some c.in-Some.of.now = sym c.in-Some.ensures in
    let step : slice_get c.in-Some.of.now.steps c.args.caller.position ≡ Some c.in-Some-step_of.step.now =
    sym c.in-Some-step_of.ensures in
    no_result c.args.ir.now c.args.readings.now c.args.value c.args.caller c.args.below c.args.run.now c.in-Some.of.now
    c.in-Some-step_of.step.now some step c.in_default-kind.not-Result
