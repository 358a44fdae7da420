use Rattle.std.proofs.Common.{◌≡◌, ◌++◌, map, drop}
use Rattle.core_tree.specs.Layout.{kind_of}
use Rattle.c_start.proofs.names.kinds.Given as goal

abbrev pub invariant-loop-ty : goal.invariant-loop-ty
invariant-loop-ty l = map kind_of l.types ≡ l.kinds ++ map kind_of (drop l.ty-index l.types)
