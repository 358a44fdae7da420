use Rattle.c_meaning.proofs.Shown.{has_its_marks}
use Rattle.c_meaning.proofs.laws.live_runs_have_their_marks.Goals as goal

pub returns : goal.returns
returns c = has_its_marks
