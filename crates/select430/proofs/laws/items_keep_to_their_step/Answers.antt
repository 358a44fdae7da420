use Rattle.select430.proofs.Owning.{fit_row, helps_as_told, are_own}
use Rattle.select430.proofs.laws.items_keep_to_their_step.Goals as goal

pub returns-clause-bytes : goal.returns-clause-bytes
returns-clause-bytes c = fit_row

pub returns-clause-helper : goal.returns-clause-helper
returns-clause-helper c = helps_as_told

pub returns-clause-own : goal.returns-clause-own
returns-clause-own c = are_own
