use Rattle.std.proofs.Common.{◌≤◌, ◌<◌}
use Rattle.ideal430.specs.Ideal.{Ideal, run}
use Rattle.ideal430.specs.At.{IsAt}
use Rattle.ideal430.proofs.machine.run.Given as goal

abbrev pub invariant-loop-made : goal.invariant-loop-made
invariant-loop-made l = record {
  is : (t : Ideal) → IsAt t l.fn.machine l.readings → IsAt (run l._made t) l.machine l.readings;
  marks : l.machine.marks ≤ l._made;
  small : l.machine.segment < 32;
}
