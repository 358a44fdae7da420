use Rattle.std.proofs.Common.{◌≡◌, ◌++◌, drop}
use Rattle.ir.specs.Machine as spec
use Rattle.ir_run.proofs.starting.initial_stamps.Given as goal

abbrev pub invariant-loop-global : goal.invariant-loop-global
invariant-loop-global l = spec.initial_stamps l.globals ≡ l.stamps ++ spec.initial_stamps (drop l.global-index l.globals)
