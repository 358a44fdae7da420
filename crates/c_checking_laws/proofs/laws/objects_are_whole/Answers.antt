use Rattle.c_checking_laws.proofs.Sizes.{object_whole}
use Rattle.c_checking_laws.proofs.laws.objects_are_whole.Goals as goal

pub returns : goal.returns
returns c = object_whole
