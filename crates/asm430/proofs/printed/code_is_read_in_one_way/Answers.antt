use Rattle.std.proofs.Common.{sym, ◌∙◌}
use Rattle.asm430.proofs.Entries.{read_once, read_instructions}
use Rattle.asm430.proofs.printed.code_is_read_in_one_way.Goals as goal

pub returns-clause-one : goal.returns-clause-one
returns-clause-one c = λ words a b p q. read_once c.decode_of_encode.ensures.list a b p.0 q.0 (p.1 ∙ sym q.1)

pub returns-clause-instructions : goal.returns-clause-instructions
returns-clause-instructions c = read_instructions
