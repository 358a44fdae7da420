use Rattle.c_meaning.proofs.Shown.{takes_what_there_is}
use Rattle.c_meaning.proofs.laws.runs_take_what_there_is.Goals as goal

pub returns : goal.returns
returns c = takes_what_there_is
