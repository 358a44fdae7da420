use Rattle.std.proofs.Common.{◌≡◌, ◌++◌, drop}
use Rattle.c_meaning.specs.After as whole
use Rattle.c_start.proofs.starting.initial_cells.Given as goal

abbrev pub invariant-loop-at : goal.invariant-loop-at
invariant-loop-at l =
    whole.initial_cells l.slots l.inits ≡ l.cells.items ++ whole.initial_cells (drop l.at l.slots) (drop l.at l.inits)
