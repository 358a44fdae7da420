use Rattle.c_numbering_laws.proofs.Program.{program_counts}
use Rattle.c_numbering_laws.proofs.laws.programs_count.Goals as goal

pub returns : goal.returns
returns c = program_counts
