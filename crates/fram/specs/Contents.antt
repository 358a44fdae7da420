-- What contracts see of the board's memory.
use Rattle.std.specs.Prelude.{ℕ, ◌+◌, ◌-◌, ◌^◌, min, List, if◌then◌else◌, nat_lt, nat_le, ◌&&◌}
use Rattle.base16.specs.Board.{stack_start, stack_end}

pub record Contents : Type 0 where
  -- 32,768 words, the first at byte address 0
  pub words : List ℕ
  -- how many words outside the stack segments were set with no tick, at most 2^64 - 1
  pub poked : ℕ

-- the count after a word is set at this byte address: it rises outside the stack and stands still at its end
abbrev pub poked_after : ℕ → ℕ → ℕ
poked_after address poked =
    if nat_le stack_start address && nat_lt address stack_end then poked else min (poked + 1) (2 ^ 64 - 1)
