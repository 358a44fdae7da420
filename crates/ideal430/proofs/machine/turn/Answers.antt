use Rattle.ideal430.proofs.Running.{turned_on, turned_to_service, turned_wild}
use Rattle.ideal430.proofs.machine.turn.Goals as goal

pub returns-in-Next-clause-is : goal.returns-in-Next-clause-is
returns-in-Next-clause-is c = λ t at.
    turned_on t c.args.machine.now c.args.readings.now c.step.new.regs c.step.new.memory at c.requires.running c.in-Next.ensures.is

pub returns-in-Service-clause-is : goal.returns-in-Service-clause-is
returns-in-Service-clause-is c = λ t at.
    turned_to_service c.in-Service.n t c.args.machine.now c.serve.new.machine c.args.readings.now c.step.new.regs c.step.new.memory
    at c.requires.running c.in-Service.ensures.is c.serve.ensures.is

pub returns-in-Wild-clause-is : goal.returns-in-Wild-clause-is
returns-in-Wild-clause-is c = λ t at.
    turned_wild c.in-Wild.address t c.args.machine.now c.stop.new.machine c.args.readings.now c.step.new.regs c.step.new.memory
    at c.requires.running c.in-Wild.ensures.wild_registers c.in-Wild.ensures.wild_memory c.in-Wild.ensures.is
    (λ u h. c.stop.ensures.is u c.args.readings.now h)
