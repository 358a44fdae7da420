use Rattle.std.proofs.Common.{◌≡◌, ◌-◌}
use Rattle.ir_run.specs.Going as spec
use Rattle.ir_run.proofs.whole.burst.Given as goal

abbrev pub invariant-loop-step : goal.invariant-loop-step
invariant-loop-step l =
    spec.bursts l.ir l.readings l.steps l.fn.control l.fn.run ≡ spec.bursts l.ir l.readings (l.steps - l._step) l.control l.run
