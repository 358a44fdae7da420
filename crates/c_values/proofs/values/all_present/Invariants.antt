use Rattle.std.proofs.Common.{◌≡◌, drop}
use Rattle.c_values.specs.Values.{all_present}
use Rattle.c_values.proofs.values.all_present.Given as goal

abbrev pub invariant-loop-value : goal.invariant-loop-value
invariant-loop-value l = all_present l.values ≡ all_present (drop l.value-index l.values)
