use Rattle.matching.proofs.CellsMatch.{matched}
use Rattle.matching.proofs.laws.cells_match.Goals as goal

pub returns : goal.returns
returns c = matched
