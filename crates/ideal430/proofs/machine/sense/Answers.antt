use Rattle.ideal430.proofs.Serving.{served_sensed, served_missing}
use Rattle.ideal430.proofs.machine.sense.Goals as goal

pub returns-in-Some-clause-is : goal.returns-in-Some-clause-is
returns-in-Some-clause-is c = λ t at n e q.
    served_sensed n t c.args.machine.now c.act.new.machine c.args.readings.now c.args.service c.args.channel c.in-Some.value
    at e c.requires.allowed q c.in-Some.ensures (λ u h. c.act.ensures.is u c.args.readings.now h)

pub returns-in-None-clause-is : goal.returns-in-None-clause-is
returns-in-None-clause-is c = λ t at n e q.
    served_missing n t c.args.machine.now c.stop.new.machine c.args.readings.now c.args.service c.args.channel
    at e c.requires.allowed q c.in-None.ensures (c.stop.ensures.is t c.args.readings.now at)
