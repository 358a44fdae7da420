use Rattle.cells430.proofs.Start.{starts}
use Rattle.cells430.proofs.laws.start_by_cells.Goals as goal

pub returns : goal.returns
returns c = starts
