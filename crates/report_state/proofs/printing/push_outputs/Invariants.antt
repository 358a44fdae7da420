use Rattle.std.proofs.Common.{◌≡◌, ◌++◌, drop}
use Rattle.report_state.specs.StateText.{outputs_text, out_lines}
use Rattle.report_state.proofs.printing.push_outputs.Given as goal

abbrev pub invariant-loop-at : goal.invariant-loop-at
invariant-loop-at l = l.fn.text.items ++ outputs_text l.outputs ≡ l.text.items ++ out_lines l.at (drop l.at l.outputs)
