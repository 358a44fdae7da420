use Rattle.std.proofs.Common.{◌≡◌, ◌-◌}
use Rattle.ir_run.specs.Going as spec
use Rattle.ir_run.proofs.whole.run_through.Given as goal

abbrev pub invariant-loop-mark : goal.invariant-loop-mark
invariant-loop-mark l =
    spec.marked l.ir l.readings l.marks l.fn.control l.fn.run ≡ spec.marked l.ir l.readings (l.marks - l._mark) l.control l.run
