use Rattle.core430.specs.Registers.{view_of}
use Rattle.services.proofs.Deeds.{asks-nothing}
use Rattle.services.proofs.Whole.{gets-none}
use Rattle.services.proofs.serving.take_reading.Goals as goal

pub returns-in_default : goal.returns-in_default
returns-in_default g c = gets-none _ _
    (asks-nothing c.args.service (view_of c.args.regs.now.r) c.requires.built c.in_default.not-Sense)
