use Rattle.std.proofs.Common.{subst, None}
use Rattle.base16.specs.Memory.{words_of}
use Rattle.core430.specs.Registers.{view_of}
use Rattle.ideal430.specs.Service.{Effect}
use Rattle.ideal430.specs.Ideal.{did}
use Rattle.ideal430.specs.Shown.{effect_shown}
use Rattle.ideal430.specs.At.{IsAt}
use Rattle.ideal430.proofs.Serving.{deed-even, deed-small, effect-at}
use Rattle.ideal430.proofs.machine.act.Goals as goal

pub perform-requires-clause-even : goal.perform-requires-clause-even
perform-requires-clause-even c =
    deed-even c.args.service c.args.value (view_of c.args.machine.now.regs.r)
    (words_of c.args.machine.now.memory) c.args.machine.now.segment
    (effect_shown c.deed_of-deed.result) c.requires.built c.requires.allowed (c.deed_of-deed.ensures None)

pub perform-requires-clause-segment : goal.perform-requires-clause-segment
perform-requires-clause-segment c =
    deed-small c.args.service c.args.value (view_of c.args.machine.now.regs.r)
    (words_of c.args.machine.now.memory) c.args.machine.now.segment
    (effect_shown c.deed_of-deed.result) c.requires.built c.requires.small c.requires.allowed (c.deed_of-deed.ensures None)

pub returns-clause-is : goal.returns-clause-is
returns-clause-is c = λ t readings at.
    subst (λ (e : Effect). IsAt (did t e) c.perform.new.machine readings)
    (effect-at t c.args.machine.now readings c.args.service c.args.value (effect_shown c.deed_of-deed.result) at
    (c.deed_of-deed.ensures None))
    (c.perform.ensures.is t readings at)
