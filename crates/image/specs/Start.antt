-- A memory into which a program was loaded.
use Rattle.std.specs.Prelude.{◌≡◌, ℕ, true}
use Rattle.board_map.specs.Map.{count_of}
use Rattle.board_map.specs.Recovered.{recovered}
use Rattle.board_map.specs.WellFormed.{IsWellFormed}
use Rattle.ideal430.specs.Places.{is_even, is_fixed}
use Rattle.ideal430.specs.Loaded.{start_registers}

-- It recovers to the start registers, 0 in each state word, and the outputs, data and code that stand; the undo log is empty.
pub record IsStart (m : ℕ → ℕ) : Type 0 where
  pub well_formed : IsWellFormed m
  pub registers : (recovered m).registers ≡ start_registers
  pub state : (k : ℕ) → (recovered m).state k ≡ 0
  pub memory : (a : ℕ) → is_even a ≡ true → is_fixed a ≡ true → (recovered m).memory a ≡ m a
  pub entries : count_of m ≡ 0
