use Rattle.std.proofs.Common.{◌≡◌, drop}
use Rattle.base16.specs.Board.{first_stack_pointer}
use Rattle.c_run.specs.Actions.{top_from}
use Rattle.c_run.proofs.run.Run.top.Given as goal

abbrev pub invariant-loop-call : goal.invariant-loop-call
invariant-loop-call l = top_from first_stack_pointer l.calls ≡ top_from l.top (drop l.call-index l.calls)
