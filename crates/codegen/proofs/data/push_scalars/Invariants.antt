use Rattle.std.proofs.Common.{◌≡◌, ◌++◌, drop}
use Rattle.c_meaning.specs.After as whole
use Rattle.c_run.specs.Actions.{kept}
use Rattle.matching.specs.Matches as matches
use Rattle.codegen.specs.Words as words
use Rattle.codegen.proofs.data.push_scalars.Given as goal

abbrev pub invariant-loop-cell : goal.invariant-loop-cell
invariant-loop-cell l =
    l.fn.into ++ words.scalar_data (matches.placed l.core (kept (whole.start l.core))) l.address l.cells
    ≡ l.into ++ words.scalar_data (matches.placed l.core (kept (whole.start l.core))) l.address (drop l.cell-index l.cells)
