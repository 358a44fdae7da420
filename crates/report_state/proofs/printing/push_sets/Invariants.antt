use Rattle.std.proofs.Common.{◌≡◌, ◌++◌, drop}
use Rattle.report_state.specs.StateText.{for_each, set_line}
use Rattle.report_state.proofs.printing.push_sets.Given as goal

abbrev pub invariant-loop-at : goal.invariant-loop-at
invariant-loop-at l =
    l.fn.text.items ++ for_each (set_line l.places.core.now l.state) l.scalars l.values
    ≡ l.text.items ++ for_each (set_line l.places.core.now l.state) (drop l.at l.scalars) (drop l.at l.values)
