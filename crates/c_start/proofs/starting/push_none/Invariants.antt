use Rattle.std.proofs.Common.{◌≡◌, ◌++◌, ◌-◌}
use Rattle.c_meaning.specs.After as whole
use Rattle.c_start.proofs.starting.push_none.Given as goal

abbrev pub invariant-loop-stamp : goal.invariant-loop-stamp
invariant-loop-stamp l = l.fn.stamps ++ whole.no_stamps l.count ≡ l.stamps ++ whole.no_stamps (l.count - l._stamp)
