-- What stands before the names of the scalars in a type.
use Rattle.std.specs.Prelude.{◌≡◌, ℕ, List}
use Rattle.core_tree.specs.Data.{Text, behind, indexed}
use Rattle.core_layout.specs.declared.names.Prefix.{Prefix}
use Rattle.core_layout.specs.Laid.{across}

-- names behind a prefix
abbrev pub behind_prefix : Prefix → List Text → List Text
behind_prefix p names = across p.befores (behind p.text names)

-- what stands behind the second is what stands behind the first and an index
abbrev pub IsInElements : Prefix → ℕ → Prefix → Type 0
IsInElements p count q = (names : List Text) → behind_prefix q names ≡ behind_prefix p (indexed count 0 names)
