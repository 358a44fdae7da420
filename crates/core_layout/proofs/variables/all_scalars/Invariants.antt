use Rattle.std.proofs.Common.{◌≡◌, take}
use Rattle.core_tree.specs.Data as spec
use Rattle.core_layout.proofs.Placing.{Stands}
use Rattle.core_layout.proofs.variables.all_scalars.Given as goal

abbrev pub invariant-loop-at : goal.invariant-loop-at
invariant-loop-at l = record {
  all_are : l.all ≡ spec.scalars_from l.core 0 (take l.at l.core.globals);
  stands : Stands l.core l.at l.bytes l.stamp;
}
