-- The number that is returned is 0.
use Rattle.tics_call.proofs.parts.is_return.Goals as goal

pub returns-in-Some-eq0-clause-is : goal.returns-in-Some-eq0-clause-is
returns-in-Some-eq0-clause-is c = λ _. record {
  number = c.in-Some.expr.now;
  line = c.in-Some.ensures.0;
  is = c.in-Some.ensures.1;
  zero = cc c.in-Some-eq0.ensures;
}
