-- What a commit writes into the slot that is not the current one.
use Rattle.std.specs.Prelude.{◌≡◌, ◌≢◌, ℕ, ◌+◌, ◌-◌, ◌*◌, ◌<◌, if◌then◌else◌, nat_lt, List, slice_index}
use Rattle.base16.specs.Board.{segment_start}
use Rattle.board_map.specs.Map.{gate_address, slot_words, registers_place, state_place, slot_address, count_address}
use Rattle.board_map.specs.Map.{gate_of, count_of}
use Rattle.board_map.specs.Recovered.{recovered}
use Rattle.board_map.specs.WellFormed.{IsWellFormed}

-- the word at an index of the slot: those of the working segment, the registers, the state words, the first of which
-- names the working segment
abbrev pub slot_value : List ℕ → List ℕ → (ℕ → ℕ) → ℕ → ℕ
slot_value registers state m index =
    if nat_lt index registers_place then m (segment_start (slice_index state 0) + 2 * index)
    else if nat_lt index state_place then slice_index registers (index - registers_place)
    else slice_index state (index - state_place)

-- the address is none of those that a commit into a slot writes: the slot's words, its count, the gate
pub record IsElsewhere (slot address : ℕ) : Type 0 where
  pub word : (i : ℕ) → i < slot_words → address ≢ slot_address slot i
  pub count : address ≢ count_address slot
  pub gate : address ≢ gate_address

-- A commit into a slot writes nothing else.
abbrev pub StaysElsewhere : ℕ → (ℕ → ℕ) → (ℕ → ℕ) → Type 0
StaysElsewhere slot old new = (b : ℕ) → IsElsewhere slot b → new b ≡ old b

-- From old to new some words of the other slot are written, and nothing else: the memory recovers to the same machine.
pub record Fills (slot : ℕ) (registers state : List ℕ) (words : ℕ) (old new : ℕ → ℕ) : Type 0 where
  pub well_formed : IsWellFormed new
  pub recovered : recovered new ≡ recovered old
  pub gate : gate_of new ≡ gate_of old
  pub count : count_of new ≡ count_of old
  pub elsewhere : StaysElsewhere slot old new
  pub words_are : (i : ℕ) → i < words → new (slot_address slot i) ≡ slot_value registers state old i
