use Rattle.std.proofs.Common.{◌≡◌, ◌++◌, ◌≤◌, drop}
use Rattle.report_state.specs.StateText.{for_each, stamp_line, timed}
use Rattle.report_state.proofs.printing.push_stamps.Given as goal

abbrev pub invariant-loop-scalar : goal.invariant-loop-scalar
invariant-loop-scalar l = record {
  text : l.fn.text.items ++ for_each stamp_line (timed l.scalars) l.stamps
      ≡ l.text.items ++ for_each stamp_line (timed (drop l.scalar-index l.scalars)) (drop l.next l.stamps);
  low : l.next ≤ l.scalar-index;
}
