-- The status register, R2 (MSP430 user's guide, 16-bit CPU, "Status Register"). C is bit 0, Z bit 1, N bit 2,
-- CPUOFF bit 4 and V bit 8.
use Rattle.std.specs.Prelude.{ℕ, ◌+◌, ◌*◌, ◌/◌, ◌%◌, Bool, true, false, not, nat_eq}

-- a bit as a number
abbrev pub bit : Bool → ℕ
bit true = 1
bit false = 0

-- both set or both clear
abbrev pub agree : Bool → Bool → Bool
agree true b = b
agree false b = not b

unfoldable pub carry_of : ℕ → Bool
carry_of status = nat_eq (status % 2) 1

unfoldable pub zero_of : ℕ → Bool
zero_of status = nat_eq (status / 2 % 2) 1

unfoldable pub negative_of : ℕ → Bool
negative_of status = nat_eq (status / 4 % 2) 1

unfoldable pub overflow_of : ℕ → Bool
overflow_of status = nat_eq (status / 256 % 2) 1

-- CPUOFF is set
unfoldable pub is_off : ℕ → Bool
is_off status = nat_eq (status / 16 % 2) 1

-- the status with C, Z, N and V replaced, all other bits as they were
unfoldable pub with_flags : ℕ → Bool → Bool → Bool → Bool → ℕ
with_flags status c z n v = status / 512 * 512 + bit v * 256 + status / 8 % 32 * 8 + bit n * 4 + bit z * 2 + bit c
