use Rattle.std.proofs.Common.{length}
use Rattle.c_run.proofs.put.+put_params.Given as goal

abbrev pub decreases-put_params : goal.decreases-put_params
decreases-put_params l = length l.kinds.now
