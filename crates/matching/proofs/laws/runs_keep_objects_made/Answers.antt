use Rattle.matching.proofs.Making.{start_made, stored_made, cleared_made, entered_made, left_made, later_made}
use Rattle.matching.proofs.laws.runs_keep_objects_made.Goals as goal

pub returns-clause-start : goal.returns-clause-start
returns-clause-start c = start_made

pub returns-clause-store : goal.returns-clause-store
returns-clause-store c = stored_made

pub returns-clause-declaration : goal.returns-clause-declaration
returns-clause-declaration c = cleared_made

pub returns-clause-call : goal.returns-clause-call
returns-clause-call c = entered_made

pub returns-clause-end : goal.returns-clause-end
returns-clause-end c = left_made

pub returns-clause-later : goal.returns-clause-later
returns-clause-later c = later_made
