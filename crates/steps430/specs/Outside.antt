-- What a program meets outside: readings that are readings, and outputs where no scalar and no stamp stands.
use Rattle.std.specs.Prelude.{ℕ, ◌+◌, ◌≤◌}
use Rattle.base16.specs.Board.{outputs_end}
use Rattle.base16.specs.Readings.{IsReadings}
use Rattle.c_values.specs.declared.state.Saved.{Saved}
use Rattle.core_tree.specs.Data.{stamp_address}
use Rattle.core_tree.specs.LawfulCore.{Every}
use Rattle.matching.specs.Laid.{IsMade}
use Rattle.matching.specs.Matches.{Placed, placed}
use Rattle.steps430.specs.Setting.{Setting}

-- all scalars of these objects stand behind the outputs
abbrev pub StandBehind : Placed → Type 0
StandBehind q = Every (λ c. outputs_end ≤ q.address + c.offset) q.object.cells

pub record MeetsOutside (p : Setting) : Type 0 where
  pub readings : IsReadings p.readings
  pub scalars : (next : ℕ) (s : Saved) → IsMade p.core next s → Every StandBehind (placed p.core s)
  pub stamps : (n : ℕ) → outputs_end ≤ stamp_address p.core n
