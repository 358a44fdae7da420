-- Values: what operators, conversions and stores make of them, or the least rule of undefined behaviour that is broken.
-- Rule 11 is a value that is missing, as what a call gave that ended without one.
use Rattle.std.specs.Prelude.{ℕ, ℤ, pos, negsuc, Bool, true, false, not, if◌then◌else◌, List, [], ◌∷◌, Result, Ok, Err}
use Rattle.base16.specs.declared.integer.IntType.{IntType}
use Rattle.base16.specs.declared.integer.IntType.TheVariants as int
use Rattle.base16.specs.declared.image.Kind.{Kind}
use Rattle.base16.specs.declared.image.Kind.TheVariants as kind
use Rattle.base16.specs.declared.operator.BinaryOp.{BinaryOp}
use Rattle.base16.specs.declared.operator.UnaryOp.{UnaryOp}
use Rattle.base16.specs.declared.operator.BinaryOp.TheVariants as op
use Rattle.base16.specs.declared.operator.UnaryOp.TheVariants as un
use Rattle.c_values.specs.declared.value.Value.{Value}
use Rattle.c_values.specs.declared.value.Value.TheVariants.{Int, Pointer, Null, Undefined}
use Rattle.c_values.specs.declared.state.State.{State}
use Rattle.c_values.specs.Operators.{as_type, number, unary, binary, truth, is_zero, is_count}
use Rattle.c_values.specs.Pointers.{unlawful, truth_of}

-- an integer that is used, or the rule that it breaks
abbrev pub integer : Value → Result ℤ ℕ
integer (Int z) = Ok z
integer Undefined = Err 11
integer _ = Err unlawful

abbrev pub int_value : Result ℤ ℕ → Result Value ℕ
int_value (Ok z) = Ok (Int z)
int_value (Err e) = Err e

-- a value that is tested or scaled, as its type says
abbrev pub numbered : IntType → Value → Value
numbered t (Int z) = Int (number t z)
numbered t v = v

-- a value that is used, whatever it is
abbrev pub present : Value → Result Value ℕ
present Undefined = Err 11
present v = Ok v

-- a value in a scalar of a kind
unfoldable pub fitted : Kind → Value → Result Value ℕ
fitted k Undefined = Err 11
fitted kind.Char (Int z) = Ok (Int (as_type int.Char z))
fitted kind.Int (Int z) = Ok (Int (as_type int.Int z))
fitted kind.UInt (Int z) = Ok (Int (as_type int.UInt z))
fitted kind.Pointer (Pointer n offset) = Ok (Pointer n offset)
fitted kind.Pointer Null = Ok Null
fitted k v = Err unlawful

-- the right side of a shift has a type of its own
abbrev pub right_type : BinaryOp → IntType → IntType → IntType
right_type op.Shl t own = own
right_type op.Shr t own = own
right_type _ t own = t

-- an operator on integers of which one is missing: a rule that holds without it is lower than 11
abbrev pub without_left : BinaryOp → ℤ → ℕ
without_left op.Div b = if is_zero b then 2 else 11
without_left op.Rem b = if is_zero b then 2 else 11
without_left op.Shl b = if is_count b then 11 else 3
without_left op.Shr b = if is_count b then 11 else 3
without_left _ b = 11

abbrev pub is_negative : ℤ → Bool
is_negative (pos n) = false
is_negative (negsuc n) = true

abbrev pub without_right : BinaryOp → IntType → ℤ → ℕ
without_right op.Shl int.Int a = if is_negative a then 3 else 11
without_right _ t a = 11

-- an operator at a type, its right side being of a type of its own
unfoldable pub operated : BinaryOp → IntType → IntType → Value → Value → Result Value ℕ
operated o t own (Int a) (Int b) = int_value (binary o t (number t a) (number (right_type o t own) b))
operated o t own Undefined (Int b) = Err (without_left o (number (right_type o t own) b))
operated o t own (Int a) Undefined = Err (without_right o t (number t a))
operated o t own Undefined Undefined = Err 11
operated o t own _ _ = Err unlawful

abbrev pub negated : Result Bool ℕ → Result Value ℕ
negated (Ok b) = Ok (Int (truth (not b)))
negated (Err e) = Err e

abbrev pub operated_alone : UnaryOp → IntType → Value → Result Value ℕ
operated_alone o t (Int z) = int_value (unary o t (number t z))
operated_alone o t Undefined = Err 11
operated_alone o t _ = Err unlawful

-- a unary operator; ! takes pointers too
unfoldable pub operated_one : State → UnaryOp → IntType → Value → Result Value ℕ
operated_one s un.Not t v = negated (truth_of s (numbered t v))
operated_one s o t v = operated_alone o t v

-- a value converted to a type: an integer to the equal one, a pointer, which is a word, as it is
unfoldable pub converted : IntType → Value → Result Value ℕ
converted t (Int z) = Ok (Int (as_type t z))
converted t Undefined = Err 11
converted int.Char v = Err unlawful
converted t v = Ok v

abbrev pub defined : Result Value ℕ → Result Value ℕ
defined (Ok Undefined) = Err 8
defined r = r

-- what is stored where a value is stored to a scalar: the access counts first
abbrev pub if_accessed : Result Value ℕ → Result Value ℕ → Result Value ℕ
if_accessed (Ok _) r = r
if_accessed (Err e) r = Err e

abbrev pub zero_of : Kind → Value
zero_of kind.Pointer = Null
zero_of _ = Int (pos 0)

abbrev pub or_missing : Result Value ℕ → Value
or_missing (Ok w) = w
or_missing (Err _) = Undefined

-- what a scalar of a kind gets of a value: what fits it, or nothing
abbrev pub fit : Kind → Value → Value
fit k v = or_missing (fitted k v)

-- all values are there
abbrev pub all_present : List Value → Result (Unit {0}) ℕ
all_present [] = Ok tt
all_present (Undefined ∷ vs) = Err 11
all_present (v ∷ vs) = all_present vs
