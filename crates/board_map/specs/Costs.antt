-- How many ticks a call takes, from its arguments, and how many entries it makes in the undo log.
use Rattle.std.specs.Prelude.{ℕ, ◌+◌, if◌then◌else◌, nat_le}
use Rattle.board_map.specs.Map.{count_of, segment_of, in_segment}

-- a word through the undo log: the entry's two words, the count, the word
abbrev pub store_cost : ℕ
store_cost = 4

-- a word of the working segment goes straight to its place
abbrev pub put_cost : (ℕ → ℕ) → ℕ → ℕ
put_cost m address = if in_segment (segment_of m) address then 1 else store_cost

-- a store makes one entry, a word of the working segment none
abbrev pub put_entries : (ℕ → ℕ) → ℕ → ℕ
put_entries m address = if in_segment (segment_of m) address then 0 else 1

-- one for each valid entry
abbrev pub rollback_cost : (ℕ → ℕ) → ℕ
rollback_cost m = count_of m

-- the slot's 153 words, its count and the gate
abbrev pub commit_cost : ℕ
commit_cost = 155

-- one for each valid entry, the 128 words of the working segment and the count
abbrev pub boot_cost : (ℕ → ℕ) → ℕ
boot_cost m = count_of m + 129

-- the entry of a logged word is valid once its third write is made
abbrev pub entries_within : ℕ → ℕ
entries_within left = if nat_le 3 left then 1 else 0

abbrev pub put_entries_within : (ℕ → ℕ) → ℕ → ℕ → ℕ
put_entries_within m address left = if in_segment (segment_of m) address then 0 else entries_within left
