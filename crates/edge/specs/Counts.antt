-- Counts of faults.
use Rattle.std.specs.Prelude.{ℕ, ◌+◌, ◌-◌, ◌^◌, ◌≤◌, min}

-- a count of 64 bits after one more fault: it stands still at its end
abbrev pub risen : ℕ → ℕ
risen count = min (count + 1) (2 ^ 64 - 1)

-- The count rose, or stands at its end.
abbrev pub HasRisen : ℕ → ℕ → Type 0
HasRisen old new = risen old ≤ new
