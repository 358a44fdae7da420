use Rattle.std.proofs.Common.{◌≡◌, ◌++◌, map, take, drop}
use Rattle.c_run.specs.Changes.{changed_call}
use Rattle.c_run.proofs.put.change_calls.Given as goal

abbrev pub invariant-loop-i : goal.invariant-loop-i
invariant-loop-i l = l.calls ≡ map (changed_call l.number l.change) (take l.i l.fn.calls) ++ drop l.i l.fn.calls
