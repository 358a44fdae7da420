use Rattle.std.proofs.Common.{◌≡◌, max, take}
use Rattle.c_tree.specs.Measure as spec
use Rattle.c_tree.proofs.extent.extent_of_all.Given as goal

abbrev pub invariant-loop-part : goal.invariant-loop-part
invariant-loop-part g l = record {
  nodes : l.together.nodes ≡ spec.capped (spec.all spec.sum (g.T.Measured.measure spec.sum) (take l.part-index l.parts));
  height : l.together.height ≡ spec.capped (spec.all max (g.T.Measured.measure max) (take l.part-index l.parts));
}
