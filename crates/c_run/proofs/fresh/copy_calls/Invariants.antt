use Rattle.std.proofs.Common.{◌≡◌, take}
use Rattle.c_run.proofs.fresh.copy_calls.Given as goal

abbrev pub invariant-loop-call : goal.invariant-loop-call
invariant-loop-call l = l.made ≡ take l.call-index l.calls
