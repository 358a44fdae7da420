use Rattle.core_tree.specs.Layout as spec
use Rattle.core_tree.proofs.Extents.{Times}
use Rattle.core_tree.proofs.sizes.extent_in.Given as goal

abbrev pub invariant-loop-inner : goal.invariant-loop-inner
invariant-loop-inner l = Times l.count (spec.layout l.structs l.inner) (spec.layout l.structs l.ty)
