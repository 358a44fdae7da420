use Rattle.std.proofs.Common.{refl}
use Rattle.asm430.proofs.Entries.{first_instr, first_datum}
use Rattle.asm430.proofs.printed.push_first.Goals as goal

pub returns-in_ok-push_instr-in-Some : goal.returns-in_ok-push_instr-in-Some
returns-in_ok-push_instr-in-Some c = first_instr _ _ _ _ _ c.in-Some.ensures c.in_ok-push_instr-in-Some.ensures

pub returns-in_ok-push_datum-in-None : goal.returns-in_ok-push_datum-in-None
returns-in_ok-push_datum-in-None c = first_datum _ _ _ _ _ c.requires c.in-None.ensures refl c.in_ok-push_datum-in-None.ensures
