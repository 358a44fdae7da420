use Rattle.std.proofs.Common.{◌≡◌, ◌+◌, ◌++◌, length, drop}
use Rattle.ir_gen.specs.Body as spec
use Rattle.ir_build.proofs.cases.label_steps.Given as goal

abbrev pub invariant-loop-label : goal.invariant-loop-label
invariant-loop-label l = record {
  steps : l.fn.code ++ spec.label_cases l.node l.of l.to l.labels
      ≡ l.code ++ spec.label_cases l.node l.of l.to (drop l.label-index l.labels);
  size : length l.fn.code + spec.label_count l.labels ≡ length l.code + spec.label_count (drop l.label-index l.labels);
}
