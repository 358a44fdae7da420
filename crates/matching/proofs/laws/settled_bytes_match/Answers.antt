use Rattle.matching.proofs.SameBytes.{match_along}
use Rattle.matching.proofs.laws.settled_bytes_match.Goals as goal

pub returns : goal.returns
returns c = match_along
