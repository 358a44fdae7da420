-- Results and flags over a width: `byte` is true for operands of 8 bits and false for operands of 16 bits. Each
-- flag of a sum or a difference is stated by the exact number, before it is cut to the width (MSP430 user's guide,
-- 16-bit CPU, "Instruction Set", the lines "Operation" and "Status Bits" of each instruction).
use Rattle.std.specs.Prelude.{ℕ, ◌+◌, ◌-◌, ◌*◌, ◌/◌, ◌%◌, Bool, true, false, not, ℤ, pos, negsuc, ◌+ℤ◌, ◌-ℤ◌, if◌then◌else◌, nat_eq, nat_lt, nat_le}
use Rattle.core430.specs.Status.{bit, with_flags}

-- how many values an operand can have: 2^8 or 2^16
abbrev pub span_of : Bool → ℕ
span_of true = 256
span_of false = 65536

-- the lowest operand whose top bit is set
abbrev pub half_of : Bool → ℕ
half_of true = 128
half_of false = 32768

abbrev pub is_negative : Bool → ℕ → Bool
is_negative byte v = nat_le (half_of byte) v

-- the number that an operand encodes in two's complement; negsuc n is the number -(n + 1)
abbrev pub signed_of : Bool → ℕ → ℤ
signed_of byte v = if is_negative byte v then negsuc (span_of byte - 1 - v) else pos v

-- a number that an operand can encode: from -128 to 127, or from -32768 to 32767
abbrev pub is_in_range : Bool → ℤ → Bool
is_in_range byte (pos n) = nat_lt n (half_of byte)
is_in_range byte (negsuc n) = nat_lt n (half_of byte)

-- the status of a result with its own Z and N, and with this C and V
abbrev pub result_status : Bool → ℕ → ℕ → Bool → Bool → ℕ
result_status byte status result c v = with_flags status c (nat_eq result 0) (is_negative byte result) v

-- ---- destination plus source plus carry
abbrev pub sum_of : Bool → Bool → ℕ → ℕ → ℕ
sum_of byte c d s = (d + s + bit c) % span_of byte

-- C where the exact sum passes the width, V where the exact signed sum lies outside its range
abbrev pub sum_status : Bool → ℕ → Bool → ℕ → ℕ → ℕ
sum_status byte status c d s =
    result_status byte status (sum_of byte c d s) (nat_le (span_of byte) (d + s + bit c)) (not (is_in_range byte ((signed_of byte d +ℤ signed_of byte s) +ℤ pos (bit c))))

-- ---- destination minus source minus borrow
abbrev pub difference_of : Bool → Bool → ℕ → ℕ → ℕ
difference_of byte b d s = (d + span_of byte - (s + bit b)) % span_of byte

-- C where the exact difference is no less than 0, so that nothing is borrowed, V where the exact signed difference
-- lies outside the width's range
abbrev pub difference_status : Bool → ℕ → Bool → ℕ → ℕ → ℕ
difference_status byte status b d s =
    result_status byte status (difference_of byte b d s) (nat_le (s + bit b) d) (not (is_in_range byte ((signed_of byte d -ℤ signed_of byte s) -ℤ pos (bit b))))

-- ---- bits: C where the result is not 0
abbrev pub logic_status : Bool → ℕ → ℕ → Bool → ℕ
logic_status byte status result v = result_status byte status result (not (nat_eq result 0)) v

-- every bit turned
abbrev pub complement_of : Bool → ℕ → ℕ
complement_of byte v = span_of byte - 1 - v

-- ---- one place to the right, a bit entering at the top
abbrev pub shifted : Bool → Bool → ℕ → ℕ
shifted byte top v = v / 2 + (if top then half_of byte else 0)

-- C is the bit that left at the bottom
abbrev pub shift_status : Bool → ℕ → ℕ → ℕ → ℕ
shift_status byte status v result = result_status byte status result (nat_eq (v % 2) 1) false

-- ---- the bytes of a word
abbrev pub swapped : ℕ → ℕ
swapped v = v % 256 * 256 + v / 256

-- bit 7 in bits 15 to 8
abbrev pub extended : ℕ → ℕ
extended v = v % 256 + (if nat_le 128 (v % 256) then 65280 else 0)
