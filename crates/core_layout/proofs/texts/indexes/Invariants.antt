use Rattle.std.proofs.Common.{◌≡◌, [], ◌∷◌}
use Rattle.core_tree.specs.Data as spec
use Rattle.core_layout.proofs.texts.indexes.Given as goal

abbrev pub invariant-loop-at : goal.invariant-loop-at
invariant-loop-at l = l.made ≡ spec.indexed l.at 0 ([] ∷ [])
