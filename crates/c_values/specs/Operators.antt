-- The operators of C on integers (C99 6.3.1.3 and 6.5.3.3 to 6.5.12): a value, or the least of the rules of undefined
-- behaviour that holds: 1 for a value outside int, 2 for a division by 0, 3 for a shift.
use Rattle.std.specs.Prelude.{ℕ, ◌*◌, ◌/◌, ◌%◌, ◌^◌, ℤ, pos, negsuc, ◌+ℤ◌, ◌-ℤ◌, ◌*ℤ◌, int_div, int_rem, int_lt, int_le, nat_le, nat_lt, nat_eq, Bool, false, ◌&&◌, not, if◌then◌else◌, bit_and, bit_or, bit_xor, Result, Ok, Err}
use Rattle.base16.specs.declared.integer.IntType.{IntType}
use Rattle.base16.specs.declared.integer.IntType.TheVariants.{Char, Int, UInt}
use Rattle.base16.specs.declared.operator.BinaryOp.{BinaryOp}
use Rattle.base16.specs.declared.operator.BinaryOp.TheVariants as op
use Rattle.base16.specs.declared.operator.UnaryOp.{UnaryOp}
use Rattle.base16.specs.declared.operator.UnaryOp.TheVariants as un
use Rattle.base16.specs.Integer.{wrapped, signed}

-- a number as a value of a type: the one that is equal modulo 2^8 or 2^16
unfoldable pub as_type : IntType → ℤ → ℤ
as_type Char v = pos (wrapped v % 256)
as_type Int v = signed (wrapped v)
as_type UInt v = pos (wrapped v)

-- the number that a word says as a value of a type; a char's word says its value
unfoldable pub number : IntType → ℤ → ℤ
number Int v = signed (wrapped v)
number _ v = pos (wrapped v)

abbrev pub truth : Bool → ℤ
truth b = if b then pos 1 else pos 0

abbrev pub is_zero : ℤ → Bool
is_zero (pos n) = nat_eq n 0
is_zero (negsuc n) = false

abbrev pub int_eq : ℤ → ℤ → Bool
int_eq a b = int_le a b && int_le b a

abbrev pub fits_int : ℤ → Bool
fits_int v = int_le (negsuc 32767) v && int_le v (pos 32767)

-- what an operation gives at a type: int does not wrap, unsigned does
unfoldable pub settled : IntType → ℤ → Result ℤ ℕ
settled Int v = if fits_int v then Ok v else Err 1
settled UInt v = Ok (as_type UInt v)
settled Char v = Ok (as_type Char v)

abbrev pub if_settled : Result ℤ ℕ → ℤ → Result ℤ ℕ
if_settled (Ok _) v = Ok v
if_settled (Err e) v = Err e

-- toward minus infinity
abbrev pub shifted_right : ℤ → ℕ → ℤ
shifted_right (pos n) k = pos (n / 2 ^ k)
shifted_right (negsuc n) k = negsuc (n / 2 ^ k)

abbrev pub count_of : ℤ → ℕ
count_of (pos n) = n
count_of (negsuc n) = 0

abbrev pub is_count : ℤ → Bool
is_count (pos n) = nat_lt n 16
is_count (negsuc n) = false

unfoldable pub shifted_left : IntType → ℤ → ℕ → Result ℤ ℕ
shifted_left Int (negsuc n) k = Err 3
shifted_left Int (pos n) k = if nat_le (n * 2 ^ k) 32767 then Ok (pos (n * 2 ^ k)) else Err 3
shifted_left t v k = Ok (as_type t (v *ℤ pos (2 ^ k)))

abbrev pub shift_left : IntType → ℤ → ℤ → Result ℤ ℕ
shift_left t a b = if is_count b then shifted_left t a (count_of b) else Err 3

abbrev pub shift_right : ℤ → ℤ → Result ℤ ℕ
shift_right a b = if is_count b then Ok (shifted_right a (count_of b)) else Err 3

-- toward zero
abbrev pub quotient : IntType → ℤ → ℤ → Result ℤ ℕ
quotient t a b = if is_zero b then Err 2 else settled t (int_div a b)

-- where the quotient lies outside int, so does the remainder count
abbrev pub remainder : IntType → ℤ → ℤ → Result ℤ ℕ
remainder t a b = if is_zero b then Err 2 else if_settled (settled t (int_div a b)) (int_rem a b)

-- the bits of both
abbrev pub joined : (ℕ → ℕ → ℕ) → IntType → ℤ → ℤ → Result ℤ ℕ
joined f t a b = Ok (as_type t (pos (f (wrapped a) (wrapped b))))

unfoldable pub unary : UnaryOp → IntType → ℤ → Result ℤ ℕ
unary un.Plus t v = Ok v
unary un.Minus t v = settled t (pos 0 -ℤ v)
unary un.Complement t v = Ok (as_type t (negsuc 0 -ℤ v))
unary un.Not t v = Ok (truth (is_zero v))

unfoldable pub binary : BinaryOp → IntType → ℤ → ℤ → Result ℤ ℕ
binary op.Add t a b = settled t (a +ℤ b)
binary op.Sub t a b = settled t (a -ℤ b)
binary op.Mul t a b = settled t (a *ℤ b)
binary op.Div t a b = quotient t a b
binary op.Rem t a b = remainder t a b
binary op.Shl t a b = shift_left t a b
binary op.Shr t a b = shift_right a b
binary op.Less t a b = Ok (truth (int_lt a b))
binary op.Greater t a b = Ok (truth (int_lt b a))
binary op.LessEq t a b = Ok (truth (int_le a b))
binary op.GreaterEq t a b = Ok (truth (int_le b a))
binary op.Equal t a b = Ok (truth (int_eq a b))
binary op.NotEqual t a b = Ok (truth (not (int_eq a b)))
binary op.And t a b = joined bit_and t a b
binary op.Xor t a b = joined bit_xor t a b
binary op.Or t a b = joined bit_or t a b
