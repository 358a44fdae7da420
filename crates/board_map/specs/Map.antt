-- The memory map. Memory is a function from byte addresses to words, which stand at even addresses. What a running program
-- sees of the map stands in `Board` of base16.
use Rattle.std.specs.Prelude.{ℕ, ◌+◌, ◌*◌, ◌<◌, ◌≤◌, ◌%◌, ◌≡◌, ◌⊎◌, Bool, ◌&&◌, nat_le, nat_lt}
use Rattle.base16.specs.Board.{outputs_start, outputs_end, stack_start, data_end, segment_start, segment_top}

-- the word that names the current slot
abbrev pub gate_address : ℕ
gate_address = 0x1000

-- two words by which the memory of this board is known
abbrev pub magic_address : ℕ
magic_address = 0x1002

abbrev pub magic_word : ℕ
magic_word = 0x5443

abbrev pub version_address : ℕ
version_address = 0x1004

abbrev pub layout_version : ℕ
layout_version = 1

-- how many entries of the undo log are valid where this slot is the current one
abbrev pub count_address : ℕ → ℕ
count_address slot = 0x1010 + 2 * slot

-- two slots of 153 words: 128 of the working segment, R0 to R15, nine state words
abbrev pub slots_start : ℕ
slots_start = 0x1100

abbrev pub slot_stride : ℕ
slot_stride = 0x140

abbrev pub slot_words : ℕ
slot_words = 153

abbrev pub registers_place : ℕ
registers_place = 128

abbrev pub register_count : ℕ
register_count = 16

abbrev pub state_place : ℕ
state_place = 144

abbrev pub state_count : ℕ
state_count = 9

-- the places of the first three state words: working segment, whether a block is open, the block log's length
abbrev pub segment_place : ℕ
segment_place = 144

abbrev pub block_open_place : ℕ
block_open_place = 145

abbrev pub block_length_place : ℕ
block_length_place = 146

-- the word at a place from 0 to 152 of slot 0 or 1
abbrev pub slot_address : ℕ → ℕ → ℕ
slot_address slot place = slots_start + slot_stride * slot + 2 * place

-- the undo log and the block log: entries of an address word and an old word
abbrev pub undo_log_start : ℕ
undo_log_start = 0x1400

abbrev pub undo_entries : ℕ
undo_entries = 256

abbrev pub block_log_start : ℕ
block_log_start = 0x1800

abbrev pub block_entries : ℕ
block_entries = 128

-- the address word of an entry of the undo log; its old word stands behind it
abbrev pub undo_address : ℕ → ℕ
undo_address index = undo_log_start + 4 * index

-- the address word of an entry of the block log; its old word stands behind it
abbrev pub block_address : ℕ → ℕ
block_address index = block_log_start + 4 * index

-- the slot that the gate names
abbrev pub gate_of : (ℕ → ℕ) → ℕ
gate_of m = m gate_address

-- the words of a slot, and those of the current one, by their places
abbrev pub slot_of : (ℕ → ℕ) → ℕ → (ℕ → ℕ)
slot_of m slot = λ place. m (slot_address slot place)

abbrev pub current : (ℕ → ℕ) → ℕ → ℕ
current m place = m (slot_address (gate_of m) place)

-- how many entries of the undo log are valid
abbrev pub count_of : (ℕ → ℕ) → ℕ
count_of m = m (count_address (gate_of m))

-- the working segment, the block's state and the block log's length in the current slot
abbrev pub segment_of : (ℕ → ℕ) → ℕ
segment_of m = current m segment_place

abbrev pub open_of : (ℕ → ℕ) → ℕ
open_of m = current m block_open_place

abbrev pub length_of : (ℕ → ℕ) → ℕ
length_of m = current m block_length_place

-- from the first address up to below the second
abbrev pub between : ℕ → ℕ → ℕ → Bool
between low high a = nat_le low a && nat_lt a high

abbrev pub in_segment : ℕ → ℕ → Bool
in_segment segment a = between (segment_start segment) (segment_top segment) a

-- the address lies in the outputs, a stack segment or the data, and a word stands there
pub record IsLoggable (a : ℕ) : Type 0 where
  pub even : a % 2 ≡ 0
  pub range : ((outputs_start ≤ a) × (a < outputs_end)) ⊎ ((stack_start ≤ a) × (a < data_end))

-- the address lies outside a stack segment
abbrev pub IsOutside : ℕ → ℕ → Type 0
IsOutside segment a = (a < segment_start segment) ⊎ (segment_top segment ≤ a)
