-- Where the objects of a state lie with their pad bytes.
use Rattle.std.specs.Prelude.{ℕ, ◌+◌, ◌≤◌, ◌≢◌, ◌⊎◌}
use Rattle.base16.specs.Board.{stack_start, data_end}
use Rattle.c_values.specs.Objects.{object_size}
use Rattle.c_values.specs.declared.state.Saved.{Saved}
use Rattle.core_tree.specs.Data.{stamps_start}
use Rattle.core_tree.specs.LawfulCore.{Every}
use Rattle.core_tree.specs.declared.program.Core.{Core}
use Rattle.matching.specs.Laid.{IsMade}
use Rattle.matching.specs.Matches.{Placed, placed}

-- an object lies whole in the stack or in the data
pub record LiesWhole (q : Placed) : Type 0 where
  pub from : stack_start ≤ q.address
  pub to : q.address + object_size q.object ≤ data_end

-- two objects share no byte
pub record AreSpaced (x y : Placed) : Type 0 where
  pub bytes : x.object.number ≢ y.object.number
      → (x.address + object_size x.object ≤ y.address) ⊎ (y.address + object_size y.object ≤ x.address)

-- where the stamps begin in the data, each object lies whole, and no two share a byte, not even a pad byte
abbrev pub ObjectsLieWhole : Core → (next : ℕ) → Saved → Type 0
ObjectsLieWhole core next s = stamps_start core ≤ data_end → IsMade core next s
    → Every LiesWhole (placed core s) × Every (λ x. Every (AreSpaced x) (placed core s)) (placed core s)
