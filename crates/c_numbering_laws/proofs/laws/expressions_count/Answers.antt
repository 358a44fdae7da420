use Rattle.c_numbering_laws.proofs.ExprNumbers.{expr_counts}
use Rattle.c_numbering_laws.proofs.laws.expressions_count.Goals as goal

pub returns : goal.returns
returns c = expr_counts
