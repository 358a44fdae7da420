use Rattle.std.proofs.Common.{◌≡◌, ◌++◌, drop, map}
use Rattle.core_layout.specs.Laid.{layout_of}
use Rattle.core_tree.specs.Layout.{layout}
use Rattle.ir_build.proofs.locals.push_laid.Given as goal

abbrev pub invariant-loop-ty : goal.invariant-loop-ty
invariant-loop-ty l = map layout_of l.fn.all ++ map (layout l.structs) l.types
    ≡ map layout_of l.all ++ map (layout l.structs) (drop l.ty-index l.types)
