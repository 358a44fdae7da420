use Rattle.std.proofs.Common.{sym, None}
use Rattle.core430.specs.Registers.{view_of}
use Rattle.ideal430.proofs.Refusing.{wild_of-stack}
use Rattle.ideal430.proofs.deed.refusal.Goals as goal

pub full-requires-clause-stack : goal.full-requires-clause-stack
full-requires-clause-stack g c =
    wild_of-stack c.args.service (view_of c.args.regs.now.r) (g.M.Words.words c.args.memory.now) c.args.segment None
    (sym (c.in-None.ensures None))
