-- What the words mean, and the cause of an error.
use Rattle.asm430.proofs.Placing.{placed, counted, held, faultless, cause, ready}
use Rattle.asm430.proofs.assembler.assemble.Goals as goal

pub returns-in-Some-clause-cause : goal.returns-in-Some-clause-cause
returns-in-Some-clause-cause c = cause c.args.items.now _ c.in-Some.ensures

pub emit-requires-clause-short : goal.emit-requires-clause-short
emit-requires-clause-short c = (faultless c.args.items.now c.in_default.ensures).short

pub emit-requires-clause-ready : goal.emit-requires-clause-ready
emit-requires-clause-ready c = ready c.args.items.now 0 0 c.args.items.now c.requires.formed (faultless c.args.items.now c.in_default.ensures).near

pub returns-in-Ok-clause-order : goal.returns-in-Ok-clause-order
returns-in-Ok-clause-order c = placed c.args.items.now _ c.in-Ok.ensures

pub returns-in-Ok-clause-length : goal.returns-in-Ok-clause-length
returns-in-Ok-clause-length c = counted c.args.items.now _ c.in-Ok.ensures

pub returns-in-Ok-clause-memory : goal.returns-in-Ok-clause-memory
returns-in-Ok-clause-memory c = held c.args.items.now _ c.in-Ok.ensures
