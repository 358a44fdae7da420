use Rattle.c_numbering_laws.proofs.StmtNumbers.{stmts_count}
use Rattle.c_numbering_laws.proofs.laws.statements_count.Goals as goal

pub returns : goal.returns
returns c = stmts_count
