use Rattle.std.proofs.Common.{◌≡◌, ◌++◌, ◌-◌}
use Rattle.ir.specs.Machine as spec
use Rattle.ir_run.proofs.starting.push_none.Given as goal

abbrev pub invariant-loop-stamp : goal.invariant-loop-stamp
invariant-loop-stamp l = l.fn.stamps ++ spec.no_stamps l.count ≡ l.stamps ++ spec.no_stamps (l.count - l._stamp)
