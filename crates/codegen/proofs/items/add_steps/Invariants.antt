-- the steps so far are added
use Rattle.std.proofs.Common.{take}
use Rattle.select430.specs.Items.{steps_items}
use Rattle.codegen.specs.Placing.{Adds}
use Rattle.codegen.proofs.items.add_steps.Given as goal

abbrev pub invariant-loop-step : goal.invariant-loop-step
invariant-loop-step l = Adds l.initial.made l.made (steps_items l.ir l.of l.fn.function 0 (take l.step l.of.steps))
