use Rattle.isa430.proofs.InMemory.{decodes}
use Rattle.isa430.proofs.Formats.{decodes_list}
use Rattle.isa430.proofs.laws.decode_of_encode.Goals as goal

pub returns-clause-memory : goal.returns-clause-memory
returns-clause-memory c = λ i v m a h. decodes i m a v h

pub returns-clause-list : goal.returns-clause-list
returns-clause-list c = decodes_list
