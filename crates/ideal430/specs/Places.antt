-- The parts of the memory that services and settled bytes speak of, by byte address.
use Rattle.std.specs.Prelude.{ℕ, ◌-◌, ◌/◌, ◌%◌, Bool, false, ◌&&◌, ◌||◌, nat_eq, nat_le, nat_lt}
use Rattle.core430.specs.Uses.{access_bytes}
use Rattle.base16.specs.Board.{outputs_start, outputs_end, stack_start, stack_end, segment_bytes, segment_start, segment_top, data_start, data_end, code_end}

-- from the first address up to below the second
abbrev pub is_between : (low high a : ℕ) → Bool
is_between low high a = nat_le low a && nat_lt a high

abbrev pub is_even : ℕ → Bool
is_even a = nat_eq (a % 2) 0

abbrev pub is_in_segment : (segment a : ℕ) → Bool
is_in_segment segment a = is_between (segment_start segment) (segment_top segment) a

-- in the stack, in this segment or one below it
abbrev pub is_up_to : (segment a : ℕ) → Bool
is_up_to segment a = is_between stack_start (segment_top segment) a

-- in the stack, above this segment
abbrev pub is_above : (segment a : ℕ) → Bool
is_above segment a = is_between (segment_top segment) stack_end a

-- the segment of an address in the stack
abbrev pub segment_of : ℕ → ℕ
segment_of a = (a - stack_start) / segment_bytes

-- where a program may store by a service: the data, and the segments up to the working one
abbrev pub may_store : (segment a : ℕ) → Bool
may_store segment a = is_between data_start data_end a || is_up_to segment a

-- the outputs, the data, the code and its tables: the bytes that always count
abbrev pub is_fixed : ℕ → Bool
is_fixed a = is_between outputs_start outputs_end a || is_between data_start code_end a

-- the two bytes of the word at an address
abbrev pub is_in_word : (a b : ℕ) → Bool
is_in_word a b = access_bytes false a b
