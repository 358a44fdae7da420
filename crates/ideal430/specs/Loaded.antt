-- A loaded image, and the run of one.
use Rattle.std.specs.Prelude.{ℕ, ◌-◌, ◌/◌, ◌≤◌, List, [], length, slice_index, None, if◌then◌else◌, nat_eq}
use Rattle.base16.specs.Board.{data_start, data_end, code_start, code_end, first_stack_pointer}
use Rattle.base16.specs.declared.reading.Reading.{Reading}
use Rattle.ideal430.specs.Places.{is_between, is_even, is_fixed}
use Rattle.ideal430.specs.Ideal.{Ideal, run}
use Rattle.ideal430.specs.declared.state.IdealEnd.TheVariants.{Running}

-- what the board can load: at most 14,336 words of code and tables, and 8,192 words of globals and stamps
pub record IsLoadable (code globals : List ℕ) : Type 0 where
  pub code_fits : length code ≤ 14336
  pub globals_fit : length globals ≤ 8192

-- the words that the board keeps for itself: magic word, version, and in slot 0 the PC and SP of the start; every other
-- of them is 0
abbrev pub control_word : ℕ → ℕ
control_word a =
    if nat_eq a 0x1002 then 0x5443
    else (if nat_eq a 0x1004 then 1
    else (if nat_eq a 0x1200 then code_start
    else (if nat_eq a 0x1202 then first_stack_pointer else 0)))

-- all words of a memory into which an image was loaded; odd addresses have no word and say 0
abbrev pub loaded : (code globals : List ℕ) → (ℕ → ℕ)
loaded code globals = λ a.
    if is_even a then
    (if is_between data_start data_end a then slice_index globals ((a - data_start) / 2)
    else (if is_between code_start code_end a then slice_index code ((a - code_start) / 2) else control_word a))
    else 0

abbrev pub start_registers : ℕ → ℕ
start_registers k = if nat_eq k 0 then code_start else (if nat_eq k 1 then first_stack_pointer else 0)

-- the start, over a memory that was loaded, with the readings that are to come; a period of 0 makes each mark due
abbrev pub start_of : (m : ℕ → ℕ) → List Reading → Ideal
start_of m readings = record {
  core = record { regs = start_registers; memory = m };
  segment = 0;
  block = None;
  marks = 0;
  left = readings;
  status = Running;
  settled = is_fixed;
  pointers = λ k. 0;
  earlier = [];
  meter = record { ticks = 0; entries = 0; commits = 0; due_ticks = 0; due_entries = 0; length = 0; period = 0 };
}

-- after so many instructions of an image on these readings
unfoldable pub ideal : (code globals : List ℕ) → List Reading → (n : ℕ) → Ideal
ideal code globals readings n = run n (start_of (loaded code globals) readings)
