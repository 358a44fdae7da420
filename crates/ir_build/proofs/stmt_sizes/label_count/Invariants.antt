use Rattle.std.proofs.Common.{◌≡◌, ◌+◌, ◌≤◌, drop}
use Rattle.core_tree.specs.Heights.{capped, most}
use Rattle.ir_gen.specs.Body as spec
use Rattle.ir_build.proofs.stmt_sizes.label_count.Given as goal

abbrev pub invariant-loop-label : goal.invariant-loop-label
invariant-loop-label l = record {
  told : capped (spec.label_count l.labels) ≡ capped (l.count + spec.label_count (drop l.label-index l.labels));
  small : l.count ≤ most;
}
