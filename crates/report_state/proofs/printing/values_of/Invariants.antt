use Rattle.std.proofs.Common.{◌≡◌, ◌++◌, drop}
use Rattle.std.specs.List.{flat_map}
use Rattle.report_state.specs.StateText.{values_of, object_values}
use Rattle.report_state.proofs.printing.values_of.Given as goal

abbrev pub invariant-loop-object : goal.invariant-loop-object
invariant-loop-object l = values_of l.state ≡ l.values ++ flat_map object_values (drop l.object-index l.state.globals)
