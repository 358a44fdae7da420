-- What a boot gives, and what stands in the memory on its way.
use Rattle.std.specs.Prelude.{◌≡◌, ◌≢◌, ℕ, ◌+◌, ◌*◌, ◌<◌, List, slice_index, if◌then◌else◌, true}
use Rattle.base16.specs.Board.{segment_start}
use Rattle.board_map.specs.Map.{register_count, count_address, gate_of, current, count_of, segment_of, IsOutside}
use Rattle.board_map.specs.Recovered.{Machine, recovered, is_live, undone}
use Rattle.board_map.specs.Ticks.{IsUnlogged}
use Rattle.board_map.specs.WellFormed.{IsWellFormed}
use Rattle.board_map.specs.declared.work.Work.{Work}

-- the registers are the machine's
abbrev pub AreRegisters : List ℕ → Machine → Type 0
AreRegisters registers machine = (k : ℕ) → k < register_count → slice_index registers k ≡ machine.registers k

-- the work state is the machine's
pub record IsWork (work : Work) (machine : Machine) : Type 0 where
  pub segment : work.segment ≡ machine.state 0
  pub block_open : (if work.block_open then 1 else 0) ≡ machine.state 1
  pub block_length : work.block_length ≡ machine.state 2
  pub marks : work.marks ≡ machine.state 3 + 65536 * machine.state 4
  pub commits : work.commits ≡ machine.state 5 + 65536 * machine.state 6

-- each word that lives is the machine's
abbrev pub IsMemory : (ℕ → ℕ) → Machine → Type 0
IsMemory m machine = (b : ℕ) → is_live machine.registers machine.state b ≡ true → m b ≡ machine.memory b

-- Outside the working segment each word but the current count is the one that is put back, whether it lives or not.
abbrev pub PutsBack : (ℕ → ℕ) → (ℕ → ℕ) → Type 0
PutsBack old new = (b : ℕ) → IsOutside (segment_of old) b → b ≢ count_address (gate_of old) → new b ≡ undone old b

-- the address is none that a boot writes: that of a valid entry, a word of the working segment, the count
pub record IsUntouched (m : ℕ → ℕ) (b : ℕ) : Type 0 where
  pub entry : IsUnlogged m b
  pub segment : IsOutside (segment_of m) b
  pub count : b ≢ count_address (gate_of m)

-- The words of the working segment below an index are the slot's, and the memory recovers as before.
pub record Copies (words : ℕ) (old new : ℕ → ℕ) : Type 0 where
  pub well_formed : IsWellFormed new
  pub recovered : recovered new ≡ recovered old
  pub gate : gate_of new ≡ gate_of old
  pub count : count_of new ≡ count_of old
  pub others : (b : ℕ) → IsOutside (segment_of old) b → new b ≡ old b
  pub copied : (i : ℕ) → i < words → new (segment_start (segment_of old) + 2 * i) ≡ current old i
