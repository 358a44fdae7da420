use Rattle.c_numbering_laws.proofs.Statements.{stmts_stay}
use Rattle.c_numbering_laws.proofs.laws.statements_stay_lawful.Goals as goal

pub returns : goal.returns
returns c x all n early are = stmts_stay are early n
