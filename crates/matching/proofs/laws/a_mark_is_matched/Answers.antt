use Rattle.matching.proofs.Metered.{mark_matched}
use Rattle.matching.proofs.laws.a_mark_is_matched.Goals as goal

pub returns : goal.returns
returns c = mark_matched
