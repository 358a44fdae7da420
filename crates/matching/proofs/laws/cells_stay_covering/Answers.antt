use Rattle.matching.proofs.Keeping.{cleared_covered, entered_covered, left_covered, elsewhere_covered}
use Rattle.matching.proofs.laws.cells_stay_covering.Goals as goal

pub returns-clause-declaration : goal.returns-clause-declaration
returns-clause-declaration c = cleared_covered

pub returns-clause-call : goal.returns-clause-call
returns-clause-call c = entered_covered

pub returns-clause-end : goal.returns-clause-end
returns-clause-end c = left_covered

pub returns-clause-elsewhere : goal.returns-clause-elsewhere
returns-clause-elsewhere c = elsewhere_covered
