use Rattle.std.proofs.Common.{◌+◌, ◌*◌}
use Rattle.c_interpreter.proofs.calls.+calls.Given as goal

abbrev pub decreases-called : goal.decreases-called
decreases-called l = 3 * l.depth

abbrev pub decreases-run_body-call : goal.decreases-run_body-call
decreases-run_body-call l = 3 * l.inner + 1

abbrev pub decreases-run_body : goal.decreases-run_body
decreases-run_body l = 3 * l.depth + 2
