-- One of R4 to R11, where its number is 4 + d.
use Rattle.std.specs.Prelude.{ℕ, ◌+◌, ◌&&◌, if◌then◌else◌, nat_eq, nat_le, nat_lt}

-- R4 + d set, for d below 8. Another register, named by its number, is seen to stay as it was
abbrev pub set_kept : (ℕ → ℕ) → ℕ → ℕ → (ℕ → ℕ)
set_kept r d v = λ k. if nat_le 4 k && nat_lt k 12 then (if nat_eq k (4 + d) then v else r k) else r k
