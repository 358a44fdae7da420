-- The machine to which the board's memory recovers after a power failure.
use Rattle.std.specs.Prelude.{ℕ, ◌+◌, ◌-◌, ◌/◌, ◌%◌, Bool, ◌&&◌, ◌||◌, nat_eq, nat_lt, if◌then◌else◌, List, [], ◌∷◌}
use Rattle.std.specs.Prelude.{slice_index, zero, suc}
use Rattle.base16.specs.Board.{outputs_start, outputs_end, stack_start, segment_start, segment_top, data_start}
use Rattle.base16.specs.Board.{data_end, code_start, code_end}
use Rattle.base16.specs.Memory.{put}
use Rattle.board_map.specs.Map.{registers_place, register_count, state_place, state_count, segment_place}
use Rattle.board_map.specs.Map.{block_log_start, block_address, undo_address, current, count_of, between, in_segment}

-- Registers, state words and memory.
pub record Machine : Type 0 where
  -- R0 to R15, and 0 from 16 on
  pub registers : ℕ → ℕ
  -- the nine state words: working segment, block open, block length, marks low and high, commit number low and high,
  -- clock low and high; and 0 from 9 on
  pub state : ℕ → ℕ
  -- the words that live, and 0 at every other address
  pub memory : ℕ → ℕ

-- the first n values, and 0 behind them
abbrev pub first : ℕ → (ℕ → ℕ) → (ℕ → ℕ)
first n f = λ k. if nat_lt k n then f k else 0

-- Where a word lives, of a machine with these registers and state words: at an even address of the block entries below the
-- block log's length, the outputs, the segments up to the working one, the data and the code.
abbrev pub is_live : (ℕ → ℕ) → (ℕ → ℕ) → ℕ → Bool
is_live registers state a = nat_eq (a % 2) 0
    && (between block_log_start (block_address (state 2)) a || between outputs_start outputs_end a
    || between stack_start (segment_top (state 0)) a || between data_start data_end a || between code_start code_end a)

-- the machine with these registers and state words, over a memory of which it has the words that live, and 0 elsewhere
abbrev pub machine : (ℕ → ℕ) → (ℕ → ℕ) → (ℕ → ℕ) → Machine
machine registers state m = record {
  registers = registers;
  state = state;
  memory = λ a. if is_live registers state a then m a else 0;
}

-- the memory with the words of a segment given by a copy of them
abbrev pub with_segment : ℕ → (ℕ → ℕ) → (ℕ → ℕ) → (ℕ → ℕ)
with_segment segment copy m = λ a. if in_segment segment a then copy ((a - segment_start segment) / 2) else m a

-- The memory with the old words of n entries put back, from the last entry to the first: so of two entries for one
-- address the first counts.
abbrev pub put_back : (ℕ → ℕ) → (ℕ → ℕ) → ℕ → (ℕ → ℕ) → (ℕ → ℕ)
put_back address old zero m = m
put_back address old (suc n) m = put_back address old n (put m (address n) (old n))

-- the memory with the old words of the valid entries put back
abbrev pub undone : (ℕ → ℕ) → (ℕ → ℕ)
undone m = put_back (λ i. m (undo_address i)) (λ i. m (undo_address i + 2)) (count_of m) m

-- the registers and the state words in a slot's words
abbrev pub registers_in : (ℕ → ℕ) → (ℕ → ℕ)
registers_in slot = first register_count (λ k. slot (registers_place + k))

abbrev pub state_in : (ℕ → ℕ) → (ℕ → ℕ)
state_in slot = first state_count (λ k. slot (state_place + k))

-- the machine of a slot's words, over a memory
abbrev pub of_slot : (ℕ → ℕ) → (ℕ → ℕ) → Machine
of_slot slot m = machine (registers_in slot) (state_in slot) (with_segment (slot segment_place) slot m)

abbrev pub recovered : (ℕ → ℕ) → Machine
recovered m = of_slot (current m) (undone m)

-- whether a word of the recovered machine lives at an address
abbrev pub lives : (ℕ → ℕ) → ℕ → Bool
lives m a = is_live (registers_in (current m)) (state_in (current m)) a

-- the nine state words
abbrev pub state_words : ℕ → ℕ → ℕ → ℕ → ℕ → ℕ → List ℕ
state_words segment block_open length marks commits clock =
    segment ∷ block_open ∷ length ∷ (marks % 65536) ∷ (marks / 65536) ∷ (commits % 65536) ∷ (commits / 65536)
    ∷ (clock % 65536) ∷ (clock / 65536) ∷ []

-- the machine of these registers and state words, over a memory whose working segment is up to date
abbrev pub machine_of : List ℕ → List ℕ → (ℕ → ℕ) → Machine
machine_of registers state m =
    machine (first register_count (λ k. slice_index registers k)) (first state_count (λ k. slice_index state k)) m
