use Rattle.std.proofs.Common.{◌≡◌, take, map}
use Rattle.core_tree.specs.Extents.{told}
use Rattle.core_tree.specs.Layout as spec
use Rattle.core_tree.proofs.sizes.fill.Given as goal

abbrev pub invariant-loop-at : goal.invariant-loop-at
invariant-loop-at l = take l.at l.known ≡ map told (spec.layouts (take l.at l.structs))
