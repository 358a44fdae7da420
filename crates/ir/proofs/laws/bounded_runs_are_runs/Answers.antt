use Rattle.ir.proofs.Bounded.{without_bound}
use Rattle.ir.proofs.laws.bounded_runs_are_runs.Goals as goal

pub returns : goal.returns
returns c = without_bound
