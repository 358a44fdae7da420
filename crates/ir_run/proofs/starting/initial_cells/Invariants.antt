use Rattle.std.proofs.Common.{◌≡◌, ◌++◌, drop}
use Rattle.ir.specs.Machine as spec
use Rattle.ir_run.proofs.starting.initial_cells.Given as goal

abbrev pub invariant-loop-at : goal.invariant-loop-at
invariant-loop-at l =
    spec.initial_cells l.slots l.inits ≡ l.cells.items ++ spec.initial_cells (drop l.at l.slots) (drop l.at l.inits)
