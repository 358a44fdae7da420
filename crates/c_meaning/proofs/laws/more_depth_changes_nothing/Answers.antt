use Rattle.c_meaning.proofs.Shown.{depth_is_enough}
use Rattle.c_meaning.proofs.laws.more_depth_changes_nothing.Goals as goal

pub returns : goal.returns
returns c = depth_is_enough
