use Rattle.std.proofs.Common.{◌≡◌, [], ◌∷◌, take}
use Rattle.core_layout.specs.Laid.{across}
use Rattle.core_layout.proofs.texts.extended.Given as goal

abbrev pub invariant-loop-before : goal.invariant-loop-before
invariant-loop-before l = l.made ≡ across (take l.before-index l.befores) (l.text ∷ [])
