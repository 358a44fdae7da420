use Rattle.std.proofs.Common.{None, refl, sym, ap, ◌∙◌}
use Rattle.ideal430.specs.Service.{own_ask}
use Rattle.ideal430.proofs.Serving.{served_none, served_refused, served_nothing}
use Rattle.ideal430.proofs.machine.serve.Goals as goal

pub returns-in_default-clause-is : goal.returns-in_default-clause-is
returns-in_default-clause-is c = λ t at.
    served_none c.args.n t c.stop.new.machine c.args.readings.now (sym c.in_default.ensures)
    (c.stop.ensures.is t c.args.readings.now at)

pub returns-in-Some-refusal-clause-is : goal.returns-in-Some-refusal-clause-is
returns-in-Some-refusal-clause-is c = λ t at.
    served_refused c.args.n t c.args.machine.now _ c.args.readings.now c.in-Some.service c.in-Some-refusal.kind at
    (sym c.in-Some.ensures)
    (c.in-Some-refusal.ensures None refl) (c.stop-in-Some-refusal.ensures.is t c.args.readings.now at)

pub returns-in-Sensor-clause-is : goal.returns-in-Sensor-clause-is
returns-in-Sensor-clause-is c = λ t at.
    c.sense.ensures.is t at c.args.n (sym c.in-Some.ensures) (ap (own_ask c.in-Some.service) at.regs ∙ sym c.in-Sensor.ensures)

pub returns-in_default-ask_of : goal.returns-in_default-ask_of
returns-in_default-ask_of c = record {
  is = λ t at.
      served_nothing c.args.n t c.args.machine.now c.act.new.machine c.args.readings.now c.in-Some.service at
      (sym c.in-Some.ensures)
      (c.in_default-refusal.ensures None refl) (λ channel q. c.in_default-ask_of.not-Sensor channel (c.ask_of.ensures ∙ q))
      (c.act.ensures.is t c.args.readings.now at);
  marks = c.act.ensures.marks;
  small = c.act.ensures.small;
}
