use Rattle.std.proofs.Common.{◌≡◌, max, take}
use Rattle.c_tree.specs.Measure as spec
use Rattle.c_tree.proofs.measure_declarations.+initial_extent.Given as goal

abbrev pub invariant-initials_extent-loop-initial : goal.invariant-initials_extent-loop-initial
invariant-initials_extent-loop-initial l = record {
  nodes : l.sum.nodes ≡ spec.capped (spec.all spec.sum (spec.initial_measure spec.sum) (take l.initial-index l.all));
  height : l.sum.height ≡ spec.capped (spec.all max (spec.initial_measure max) (take l.initial-index l.all));
}
