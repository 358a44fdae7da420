use Rattle.std.proofs.Common.{◌≡◌, ◌++◌, map, drop}
use Rattle.core_tree.specs.Layout.{layout}
use Rattle.c_start.proofs.frames.push_objects.Given as goal

abbrev pub invariant-loop-ty : goal.invariant-loop-ty
invariant-loop-ty l =
    l.fn.objects ++ map (λ t. (layout l.structs t).slots) l.types
    ≡ l.objects ++ map (λ t. (layout l.structs t).slots) (drop l.ty-index l.types)
