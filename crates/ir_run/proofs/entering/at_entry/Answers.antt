use Rattle.std.proofs.Common.{◌≡◌, Some, None, slice_get, sym, arith}
use Rattle.std.proofs.lemmas.Grind.{common_steps}
use Rattle.ir_run.proofs.Finding.{entry_there, no_entry, no_function, no_step}
use Rattle.ir_run.proofs.entering.at_entry.Goals as goal

pub returns-in_default : goal.returns-in_default
returns-in_default c =
    let none : slice_get c.args.ir.now.functions c.args.function ≡ None = grind (arith, common_steps) in
    no_function c.args.ir.now c.args._readings.now c.args.function 0 _ c.args.run.now none

pub returns-in_default-step_of : goal.returns-in_default-step_of
returns-in_default-step_of c =
    let some : slice_get c.args.ir.now.functions c.args.function ≡ Some c.in-Some.of.now = sym c.in-Some.ensures in
    let none : slice_get c.in-Some.of.now.steps 0 ≡ None = grind (arith, common_steps) in
    no_step c.args.ir.now c.args._readings.now c.args.function 0 _ c.args.run.now c.in-Some.of.now some none

pub returns-in-Enter : goal.returns-in-Enter
returns-in-Enter c =
    let some : slice_get c.args.ir.now.functions c.args.function ≡ Some c.in-Some.of.now = sym c.in-Some.ensures in
    let step : slice_get c.in-Some.of.now.steps 0 ≡ Some c.in-Some-step_of.step.now = sym c.in-Some-step_of.ensures in
    entry_there c.args.ir.now c.args._readings.now c.args.function c.args._depth c.args.args.now c.args.below c.args.run.now
    c.in-Some.of.now c.in-Some-step_of.step.now _ c.enter_function.result c.enter_function.new.run some step c.in-Enter.is
    c.enter_function.ensures

pub returns-in_default-kind : goal.returns-in_default-kind
returns-in_default-kind c =
    let some : slice_get c.args.ir.now.functions c.args.function ≡ Some c.in-Some.of.now = sym c.in-Some.ensures in
    let step : slice_get c.in-Some.of.now.steps 0 ≡ Some c.in-Some-step_of.step.now = sym c.in-Some-step_of.ensures in
    no_entry c.args.ir.now c.args._readings.now c.args.function c.args._depth c.args.args.now c.args.below c.args.run.now
    c.in-Some.of.now c.in-Some-step_of.step.now some step c.in_default-kind.not-Enter
