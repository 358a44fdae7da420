-- Classes of bytes, and what digits are worth.
use Rattle.std.specs.Prelude.{ℕ, ◌+◌, ◌-◌, ◌*◌, Bool, ◌&&◌, ◌||◌, not, if◌then◌else◌, ◌==◌, nat_le, nat_lt, fold}
use Rattle.c_lex.specs.Spelling.{Text}

-- `0` to `9`
abbrev pub is_digit : ℕ → Bool
is_digit b = nat_le 48 b && nat_le b 57

-- `a` to `z`, `A` to `Z` and `_` (C99 6.4.2.1)
abbrev pub is_letter : ℕ → Bool
is_letter b = (nat_le 97 b && nat_le b 122) || (nat_le 65 b && nat_le b 90) || b == 95

-- what may stand in a name or a number past its first byte
abbrev pub continues : ℕ → Bool
continues b = is_letter b || is_digit b

-- a line feed ends a line
abbrev pub in_line : ℕ → Bool
in_line b = not (b == 10)

-- a blank within a line: space, tab, carriage return, form feed, vertical tab
abbrev pub is_line_blank : ℕ → Bool
is_line_blank b = b == 32 || b == 9 || b == 13 || b == 12 || b == 11

-- a blank: one of these, or a line feed (C99 6.4)
abbrev pub is_blank : ℕ → Bool
is_blank b = is_line_blank b || b == 10

-- what a digit is worth, in upper or lower case, and 16 for any other byte
abbrev pub digit_value : ℕ → ℕ
digit_value b =
    if is_digit b then b - 48
    else (if nat_le 97 b && nat_le b 102 then b - 87
    else (if nat_le 65 b && nat_le b 70 then b - 55 else 16))

-- a digit of this base, which is at most 16
abbrev pub is_digit_of : ℕ → ℕ → Bool
is_digit_of base b = nat_lt (digit_value b) base

-- what a text of digits is worth
abbrev pub value : ℕ → Text → ℕ
value base = fold (λ n b. base * n + digit_value b) 0
