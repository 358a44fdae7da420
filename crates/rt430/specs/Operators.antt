-- The values of C's operators on words (C99 6.5.5 and 6.5.7), wherever C leaves them defined.
use Rattle.std.specs.Prelude.{◌≢◌, ℕ, ◌*◌, ◌/◌, ◌%◌, ◌^◌, ◌<◌, ℤ, pos, negsuc, int_div, int_rem}
use Rattle.base16.specs.Integer.{signed, wrapped}
use Rattle.rt430.specs.declared.words.Helper.{Helper}
use Rattle.rt430.specs.declared.words.Helper.TheVariants.{Mul16, Udiv16, Umod16, Sdiv16, Smod16, Shl, Shr, Sar}

-- the product modulo 2^16: a signed product that is in range has this word too
abbrev pub product : ℕ → ℕ → ℕ
product x y = (x * y) % 65536

-- the quotient of signed operands modulo 2^16; int_div rounds toward zero. For a divisor other than 0 it is out of range
-- only at -32768 / -1, which C leaves undefined
abbrev pub signed_quotient : ℕ → ℕ → ℕ
signed_quotient x y = wrapped (int_div (signed x) (signed y))

-- what that quotient leaves of the left operand: quotient times divisor plus int_rem is the operand, whose sign it has
abbrev pub signed_remainder : ℕ → ℕ → ℕ
signed_remainder x y = wrapped (int_rem (signed x) (signed y))

-- the left operand times 2^count modulo 2^16
abbrev pub left_shifted : ℕ → ℕ → ℕ
left_shifted x count = (x * 2 ^ count) % 65536

-- an unsigned left operand divided by 2^count
abbrev pub right_shifted : ℕ → ℕ → ℕ
right_shifted x count = x / 2 ^ count

-- a number divided by 2^count and rounded down; negsuc n is the number -(n + 1)
abbrev pub halved : ℤ → ℕ → ℤ
halved (pos n) count = pos (n / 2 ^ count)
halved (negsuc n) count = negsuc (n / 2 ^ count)

-- the right shift of a signed left operand, which is arithmetic
abbrev pub signed_right_shifted : ℕ → ℕ → ℕ
signed_right_shifted x count = wrapped (halved (signed x) count)

-- the value of each routine's operator
abbrev pub value : Helper → ℕ → ℕ → ℕ
value Mul16 x y = product x y
value Udiv16 x y = x / y
value Umod16 x y = x % y
value Sdiv16 x y = signed_quotient x y
value Smod16 x y = signed_remainder x y
value Shl x y = left_shifted x y
value Shr x y = right_shifted x y
value Sar x y = signed_right_shifted x y

-- where it has one: C leaves undefined a divisor of 0 and a count of 16 or more
abbrev pub HasValue : Helper → ℕ → ℕ → Type 0
HasValue Mul16 x y = Unit {0}
HasValue Udiv16 x y = y ≢ 0
HasValue Umod16 x y = y ≢ 0
HasValue Sdiv16 x y = y ≢ 0
HasValue Smod16 x y = y ≢ 0
HasValue Shl x y = y < 16
HasValue Shr x y = y < 16
HasValue Sar x y = y < 16
