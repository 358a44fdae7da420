-- What sums, differences and comparisons say of each flag, and which jumps they take.
use Rattle.std.proofs.Common.{◌≡◌, ℕ, ◌+◌, ◌%◌, ◌<◌, refl, ap, ◌∙◌, arith, Bool, true, false, not}
use Rattle.std.proofs.lemmas.Bool.Decides.{nat_tests}
use Rattle.std.proofs.lemmas.Int.{ints}
use Rattle.std.specs.Prelude.{nat_eq, nat_lt, nat_le, pos, ◌+ℤ◌, ◌-ℤ◌}
use Rattle.isa430.specs.declared.instr.Cond.TheVariants.{Ge, Less}
use Rattle.core430.specs.Status.{bit, agree, carry_of, zero_of, negative_of, overflow_of}
use Rattle.core430.specs.Arithmetic.{span_of, half_of, is_negative, signed_of, is_in_range, sum_of, sum_status, difference_of, difference_status, logic_status, shift_status}
use Rattle.core430.specs.Instructions.{is_taken}
use Rattle.core430.proofs.Flags.{carry_of-with_flags, zero_of-with_flags, negative_of-with_flags, overflow_of-with_flags}

-- ---- sums

pub sum_carry : (byte : Bool) (status : ℕ) (c : Bool) (d s : ℕ) → carry_of (sum_status byte status c d s) ≡ nat_le (span_of byte) (d + s + bit c)
sum_carry byte status c d s = carry_of-with_flags _ _ _ _ _

pub sum_zero : (byte : Bool) (status : ℕ) (c : Bool) (d s : ℕ) → zero_of (sum_status byte status c d s) ≡ nat_eq (sum_of byte c d s) 0
sum_zero byte status c d s = zero_of-with_flags _ _ _ _ _

pub sum_negative : (byte : Bool) (status : ℕ) (c : Bool) (d s : ℕ) → negative_of (sum_status byte status c d s) ≡ is_negative byte (sum_of byte c d s)
sum_negative byte status c d s = negative_of-with_flags _ _ _ _ _

pub sum_overflow : (byte : Bool) (status : ℕ) (c : Bool) (d s : ℕ) → overflow_of (sum_status byte status c d s) ≡ not (is_in_range byte ((signed_of byte d +ℤ signed_of byte s) +ℤ pos (bit c)))
sum_overflow byte status c d s = overflow_of-with_flags _ _ _ _ _

-- ---- differences, and so comparisons

-- C where nothing is borrowed
pub difference_carry : (byte : Bool) (status : ℕ) (b : Bool) (d s : ℕ) → carry_of (difference_status byte status b d s) ≡ nat_le (s + bit b) d
difference_carry byte status b d s = carry_of-with_flags _ _ _ _ _

pub difference_zero : (byte : Bool) (status : ℕ) (b : Bool) (d s : ℕ) → zero_of (difference_status byte status b d s) ≡ nat_eq (difference_of byte b d s) 0
difference_zero byte status b d s = zero_of-with_flags _ _ _ _ _

pub difference_negative : (byte : Bool) (status : ℕ) (b : Bool) (d s : ℕ) → negative_of (difference_status byte status b d s) ≡ is_negative byte (difference_of byte b d s)
difference_negative byte status b d s = negative_of-with_flags _ _ _ _ _

pub difference_overflow : (byte : Bool) (status : ℕ) (b : Bool) (d s : ℕ) → overflow_of (difference_status byte status b d s) ≡ not (is_in_range byte ((signed_of byte d -ℤ signed_of byte s) -ℤ pos (bit b)))
difference_overflow byte status b d s = overflow_of-with_flags _ _ _ _ _

-- C of a comparison: the destination is no less than the source
pub compare_carry : (byte : Bool) (status d s : ℕ) → carry_of (difference_status byte status false d s) ≡ nat_le s d
compare_carry byte status d s = difference_carry byte status false d s ∙ ap (λ (k : ℕ). nat_le k d) (let e : s + 0 ≡ s = omega arith in e)

-- Z of a comparison: the operands are equal
pub compare_zero : (byte : Bool) (status d s : ℕ) → d < span_of byte → s < span_of byte → zero_of (difference_status byte status false d s) ≡ nat_eq d s
compare_zero byte status d s l k = difference_zero byte status false d s ∙ same byte d s l k
  where
    same : (byte : Bool) (d s : ℕ) → d < span_of byte → s < span_of byte → nat_eq (difference_of byte false d s) 0 ≡ nat_eq d s
    same true d s l k = grind (arith, nat_tests)
    same false d s l k = grind (arith, nat_tests)

-- the order of two operands as signed numbers
abbrev pub signed_less : Bool → ℕ → ℕ → Bool
signed_less byte d s = nat_lt ((d + half_of byte) % span_of byte) ((s + half_of byte) % span_of byte)

-- N and V of a comparison differ: the destination is less than the source as a signed number
pub compare_less : (byte : Bool) (status d s : ℕ) → d < span_of byte → s < span_of byte → is_taken Less (difference_status byte status false d s) ≡ signed_less byte d s
compare_less byte status d s l k = ap (λ (x : Bool). not (agree x (overflow_of (difference_status byte status false d s)))) (difference_negative byte status false d s) ∙ ap (λ (x : Bool). not (agree (is_negative byte (difference_of byte false d s)) x)) (difference_overflow byte status false d s) ∙ order byte d s l k
  where
    order : (byte : Bool) (d s : ℕ) → d < span_of byte → s < span_of byte → not (agree (is_negative byte (difference_of byte false d s)) (not (is_in_range byte ((signed_of byte d -ℤ signed_of byte s) -ℤ pos 0)))) ≡ signed_less byte d s
    order true d s l k = grind (arith, nat_tests, ints)
    order false d s l k = grind (arith, nat_tests, ints)

pub compare_greater_or_equal : (byte : Bool) (status d s : ℕ) → d < span_of byte → s < span_of byte → is_taken Ge (difference_status byte status false d s) ≡ not (signed_less byte d s)
compare_greater_or_equal byte status d s l k = twice (agree (negative_of (difference_status byte status false d s)) (overflow_of (difference_status byte status false d s))) ∙ ap not (compare_less byte status d s l k)
  where
    twice : (b : Bool) → b ≡ not (not b)
    twice true = refl
    twice false = refl

-- ---- results of bits, and shifts

pub logic_carry : (byte : Bool) (status v : ℕ) (o : Bool) → carry_of (logic_status byte status v o) ≡ not (nat_eq v 0)
logic_carry byte status v o = carry_of-with_flags _ _ _ _ _

pub logic_zero : (byte : Bool) (status v : ℕ) (o : Bool) → zero_of (logic_status byte status v o) ≡ nat_eq v 0
logic_zero byte status v o = zero_of-with_flags _ _ _ _ _

pub logic_negative : (byte : Bool) (status v : ℕ) (o : Bool) → negative_of (logic_status byte status v o) ≡ is_negative byte v
logic_negative byte status v o = negative_of-with_flags _ _ _ _ _

-- C is the bit that left at the bottom
pub shift_carry : (byte : Bool) (status v w : ℕ) → carry_of (shift_status byte status v w) ≡ nat_eq (v % 2) 1
shift_carry byte status v w = carry_of-with_flags _ _ _ _ _

pub shift_zero : (byte : Bool) (status v w : ℕ) → zero_of (shift_status byte status v w) ≡ nat_eq w 0
shift_zero byte status v w = zero_of-with_flags _ _ _ _ _
