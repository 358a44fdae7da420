use Rattle.c_typing.proofs.Walked.{is_walked}
use Rattle.c_typing.proofs.laws.expressions_are_walked.Goals as goal

pub returns : goal.returns
returns c = is_walked
