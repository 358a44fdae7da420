use Rattle.services.proofs.Fitting.{fits}
use Rattle.services.proofs.laws.a_commit_is_where_the_machine_stands.Goals as goal

pub returns : goal.returns
returns c = fits
