use Rattle.std.proofs.Common.{◌≡◌, ◌++◌, ◌-◌, drop}
use Rattle.std.specs.Prelude.{take}
use Rattle.ir.specs.Machine as spec
use Rattle.ir_run.proofs.Starts.{kinds}
use Rattle.ir_run.proofs.calls.param_kinds.Given as goal

abbrev pub invariant-loop-at : goal.invariant-loop-at
invariant-loop-at l =
    spec.param_kinds l.function ≡ l.kinds ++ kinds (take (l.function.params - l.at) (drop l.at l.function.locals))
