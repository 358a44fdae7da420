-- What a status with new flags says of each flag, and of the other bits.
use Rattle.std.proofs.Common.{◌≡◌, ◌<◌, ◌≤◌, ℕ, ◌+◌, ◌*◌, ◌/◌, ◌%◌, Bool, true, false, nat_eq, refl, ap, ◌∙◌, arith}
use Rattle.core430.specs.Status.{bit, carry_of, zero_of, negative_of, overflow_of, is_off, with_flags}

pub bit_below : (b : Bool) → bit b ≤ 1
bit_below true = omega arith
bit_below false = omega arith

bit_test : (b : Bool) → nat_eq (bit b) 1 ≡ b
bit_test true = refl
bit_test false = refl

-- each bit of such a sum, from the lowest
flag_bits : (h l v n z c : ℕ) → v ≤ 1 → n ≤ 1 → z ≤ 1 → c ≤ 1 → l < 32 → let w = h * 512 + v * 256 + l * 8 + n * 4 + z * 2 + c in (w % 2 ≡ c) × (w / 2 % 2 ≡ z) × (w / 4 % 2 ≡ n) × (w / 16 % 2 ≡ l / 2 % 2) × (w / 256 % 2 ≡ v)
flag_bits h l v n z c lv ln lz lc ll = (omega arith, omega arith, omega arith, omega arith, omega arith)

bits : (status : ℕ) (c z n v : Bool) → let w = status / 512 * 512 + bit v * 256 + status / 8 % 32 * 8 + bit n * 4 + bit z * 2 + bit c in (w % 2 ≡ bit c) × (w / 2 % 2 ≡ bit z) × (w / 4 % 2 ≡ bit n) × (w / 16 % 2 ≡ status / 8 % 32 / 2 % 2) × (w / 256 % 2 ≡ bit v)
bits status c z n v = flag_bits (status / 512) (status / 8 % 32) (bit v) (bit n) (bit z) (bit c) (bit_below v) (bit_below n) (bit_below z) (bit_below c) (omega arith)

pub carry_of-with_flags : (status : ℕ) (c z n v : Bool) → carry_of (with_flags status c z n v) ≡ c
unfolding carry_of with_flags
carry_of-with_flags status c z n v = ap (λ k. nat_eq k 1) (bits status c z n v).0 ∙ bit_test c

pub zero_of-with_flags : (status : ℕ) (c z n v : Bool) → zero_of (with_flags status c z n v) ≡ z
unfolding zero_of with_flags
zero_of-with_flags status c z n v = ap (λ k. nat_eq k 1) (bits status c z n v).1 ∙ bit_test z

pub negative_of-with_flags : (status : ℕ) (c z n v : Bool) → negative_of (with_flags status c z n v) ≡ n
unfolding negative_of with_flags
negative_of-with_flags status c z n v = ap (λ k. nat_eq k 1) (bits status c z n v).2 ∙ bit_test n

pub overflow_of-with_flags : (status : ℕ) (c z n v : Bool) → overflow_of (with_flags status c z n v) ≡ v
unfolding overflow_of with_flags
overflow_of-with_flags status c z n v = ap (λ k. nat_eq k 1) (bits status c z n v).4 ∙ bit_test v

pub is_off-with_flags : (status : ℕ) (c z n v : Bool) → is_off (with_flags status c z n v) ≡ is_off status
unfolding is_off with_flags
is_off-with_flags status c z n v = ap (λ k. nat_eq k 1) (let e : status / 8 % 32 / 2 % 2 ≡ status / 16 % 2 = omega arith in (bits status c z n v).3 ∙ e)
