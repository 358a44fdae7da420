use Rattle.std.proofs.Common.{◌≡◌, ◌++◌, map, take}
use Rattle.core_tree.specs.Extents.{told}
use Rattle.core_tree.specs.Layout as spec
use Rattle.core_tree.proofs.sizes.row_extent.Given as goal

abbrev pub invariant-loop-ty : goal.invariant-loop-ty
invariant-loop-ty l = l.sum ≡ told (spec.with_members spec.nothing (map (spec.layout l.structs) (l._before ++ take l.ty-index l.types)))
