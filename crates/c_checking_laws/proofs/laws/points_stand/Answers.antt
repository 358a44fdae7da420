use Rattle.c_checking_laws.proofs.Sources.{point_stands}
use Rattle.c_checking_laws.proofs.laws.points_stand.Goals as goal

pub returns : goal.returns
returns c = point_stands
