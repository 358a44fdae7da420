use Rattle.matching.proofs.Storing.{store_matches}
use Rattle.matching.proofs.laws.a_store_sets_one_cell.Goals as goal

pub returns : goal.returns
returns c = store_matches
