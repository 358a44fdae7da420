-- Where the objects of a state lie whole, and how far pointers go.
use Rattle.std.specs.Prelude.{◌≡◌, ℕ, ◌≤◌, Some}
use Rattle.c_values.specs.Objects.{object_of}
use Rattle.c_values.specs.Pointers.{end_of}
use Rattle.c_values.specs.declared.state.Object.{Object}
use Rattle.c_values.specs.declared.state.Saved.{Saved}
use Rattle.c_values.specs.declared.state.State.{State}
use Rattle.c_values.specs.declared.value.Value.{Value}
use Rattle.c_values.specs.declared.value.Value.TheVariants.{Pointer}
use Rattle.core_tree.specs.LawfulCore.{Every}
use Rattle.matching.specs.Laid.{IsMade}
use Rattle.matching.specs.Matches.{placed}
use Rattle.matching.specs.Spacing.{LiesWhole, AreSpaced}
use Rattle.steps430.specs.Setting.{Setting}

-- a pointer to an object that is alive goes no further than to its end
abbrev pub StaysInside : State → Value → Type 0
StaysInside s (Pointer n offset) = (o : Object) → object_of s n ≡ Some o → offset ≤ end_of o
StaysInside s v = Unit {0}

-- both do
abbrev pub StayInside : State → Value → Value → Type 0
StayInside s a b = StaysInside s a × StaysInside s b

-- The objects of a state as a run makes it lie whole, and no two share a byte.
pub record ObjectsLie (p : Setting) : Type 0 where
  pub whole : (next : ℕ) (s : Saved) → IsMade p.core next s → Every LiesWhole (placed p.core s)
  pub spaced : (next : ℕ) (s : Saved) → IsMade p.core next s
      → Every (λ x. Every (AreSpaced x) (placed p.core s)) (placed p.core s)
