use Rattle.std.proofs.Common.{◌≡◌, [], ◌-◌, reverse}
use Rattle.ir_steps.specs.Doing as spec
use Rattle.ir_run.proofs.calls.top_values.Given as goal

abbrev pub invariant-loop-value : goal.invariant-loop-value
invariant-loop-value l =
    spec.top_values l.count l.fn.temporaries [] l.run ≡ spec.top_values (l.count - l._value) l.temporaries (reverse l.found) l.run
