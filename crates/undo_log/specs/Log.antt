-- What stays and what changes in a store through the undo log.
use Rattle.std.specs.Prelude.{◌≡◌, ◌≢◌, ℕ, ◌+◌, ◌≤◌}
use Rattle.base16.specs.Memory.{put}
use Rattle.board_map.specs.Map.{block_log_start, undo_address, count_address, gate_of, count_of}
use Rattle.board_map.specs.Recovered.{recovered}
use Rattle.board_map.specs.WellFormed.{IsWellFormed}

-- each word past the undo log is as it was: block log, outputs, segments, data and code
abbrev pub Stays : (ℕ → ℕ) → (ℕ → ℕ) → Type 0
Stays old new = (b : ℕ) → block_log_start ≤ b → new b ≡ old b

-- a word is set, and each other word past the undo log is as it was
abbrev pub Sets : ℕ → ℕ → (ℕ → ℕ) → (ℕ → ℕ) → Type 0
Sets address word old new = (b : ℕ) → block_log_start ≤ b → new b ≡ put old address word b

-- The first entry that was not valid has an address and the word that stood there.
pub record Enters (address : ℕ) (old new : ℕ → ℕ) : Type 0 where
  pub address_is : new (undo_address (count_of old)) ≡ address
  pub word_is : new (undo_address (count_of old) + 2) ≡ old address

-- the address is none that a store writes: the entry's two words, the count, the word itself
pub record IsApart (m : ℕ → ℕ) (address b : ℕ) : Type 0 where
  pub entry : b ≢ undo_address (count_of m)
  pub old : b ≢ undo_address (count_of m) + 2
  pub count : b ≢ count_address (gate_of m)
  pub place : b ≢ address

-- At most the two words of the first entry that is not valid are written: nothing changes that counts.
pub record Prepares (old new : ℕ → ℕ) : Type 0 where
  pub well_formed : IsWellFormed new
  pub recovered : recovered new ≡ recovered old
  pub gate : gate_of new ≡ gate_of old
  pub count : count_of new ≡ count_of old
  pub past : Stays old new
  pub others : (b : ℕ) → b ≢ undo_address (count_of old) → b ≢ undo_address (count_of old) + 2 → new b ≡ old b

-- An entry for an address is made.
pub record Logs (address : ℕ) (old new : ℕ → ℕ) : Type 0 where
  pub well_formed : IsWellFormed new
  pub recovered : recovered new ≡ recovered old
  pub gate : gate_of new ≡ gate_of old
  pub count : count_of new ≡ count_of old + 1
  pub entry : Enters address old new
  pub past : Stays old new
  pub others : (b : ℕ) → b ≢ undo_address (count_of old) → b ≢ undo_address (count_of old) + 2
      → b ≢ count_address (gate_of old) → new b ≡ old b
