-- The typing rules of the language as tables (C99 6.3.1, 6.5 and 6.8 in this profile): what converts to what, which
-- operands an operator takes, and of which type the whole is.
use Rattle.std.specs.Prelude.{Bool, true, false, not, ◌&&◌, ◌||◌, ℤ, pos, negsuc, int_le}
use Rattle.base16.specs.declared.integer.IntType.{IntType}
use Rattle.base16.specs.declared.integer.IntType.TheVariants.{Char, Int, UInt}
use Rattle.base16.specs.declared.operator.UnaryOp.{UnaryOp}
use Rattle.base16.specs.declared.operator.UnaryOp.TheVariants as un
use Rattle.base16.specs.declared.operator.BinaryOp.{BinaryOp}
use Rattle.base16.specs.declared.operator.BinaryOp.TheVariants as op
use Rattle.core_tree.specs.declared.types.Ty.{Ty, out-Ty}
use Rattle.core_tree.specs.declared.types.Ty.TheOpen.{Ty-F}
use Rattle.core_tree.specs.Types.{same}

-- ---- integers

-- promotion (C99 6.3.1.1): a `char` becomes an `int`
abbrev pub promoted : IntType → IntType
promoted Char = Int
promoted Int = Int
promoted UInt = UInt

-- balance (C99 6.3.1.8): an `int` with an `unsigned int` becomes an `unsigned int`
abbrev pub balanced : IntType → IntType → IntType
balanced UInt _ = UInt
balanced _ UInt = UInt
balanced _ _ = Int

-- the values of an integer type
abbrev pub least : IntType → ℤ
least Char = pos 0
least Int = negsuc 32767
least UInt = pos 0

abbrev pub greatest : IntType → ℤ
greatest Char = pos 255
greatest Int = pos 32767
greatest UInt = pos 65535

abbrev pub is_value : IntType → ℤ → Bool
is_value t n = int_le (least t) n && int_le n (greatest t)

-- ---- types

abbrev pub integer_layer : Ty-F Ty → Bool
integer_layer (Ty-F.Num t) = true
integer_layer _ = false

abbrev pub scalar_layer : Ty-F Ty → Bool
scalar_layer (Ty-F.Num t) = true
scalar_layer (Ty-F.Pointer to readonly) = true
scalar_layer _ = false

-- what a `switch` takes
unfoldable pub is_integer : Ty → Bool
is_integer t = integer_layer (out-Ty t)

-- what `!`, `&&`, `||`, a test and the first part of `?:` take: an integer or a pointer
unfoldable pub is_scalar : Ty → Bool
is_scalar t = scalar_layer (out-Ty t)

-- ---- conversions, as by assignment, by an argument and by `return`

-- any integer to any integer type; a pointer to a pointer to the same type, which may add const and never drops it
abbrev pub converts_layer : Ty-F Ty → Ty-F Ty → Bool
converts_layer (Ty-F.Num from) (Ty-F.Num to) = true
converts_layer (Ty-F.Pointer from was_readonly) (Ty-F.Pointer to readonly) = same to from && (readonly || not was_readonly)
converts_layer _ _ = false

unfoldable pub converts : Ty → Ty → Bool
converts from to = converts_layer (out-Ty from) (out-Ty to)

-- a constant 0 to any pointer
abbrev pub zero_layer : Ty-F Ty → Bool
zero_layer (Ty-F.Pointer to readonly) = true
zero_layer _ = false

unfoldable pub takes_zero : Ty → Bool
takes_zero to = zero_layer (out-Ty to)

-- a cast goes from integer to integer
abbrev pub casts_layer : Ty-F Ty → Ty-F Ty → Bool
casts_layer (Ty-F.Num from) (Ty-F.Num to) = true
casts_layer _ _ = false

unfoldable pub casts : Ty → Ty → Bool
casts from to = casts_layer (out-Ty from) (out-Ty to)

-- ---- operators

abbrev pub is_order : BinaryOp → Bool
is_order op.Less = true
is_order op.Greater = true
is_order op.LessEq = true
is_order op.GreaterEq = true
is_order _ = false

abbrev pub is_equality : BinaryOp → Bool
is_equality op.Equal = true
is_equality op.NotEqual = true
is_equality _ = false

abbrev pub is_comparison : BinaryOp → Bool
is_comparison o = is_order o || is_equality o

abbrev pub is_shift : BinaryOp → Bool
is_shift op.Shl = true
is_shift op.Shr = true
is_shift _ = false

-- `+` and `-` take a pointer and an integer
abbrev pub takes_pointer_integer : BinaryOp → Bool
takes_pointer_integer op.Add = true
takes_pointer_integer op.Sub = true
takes_pointer_integer _ = false

-- `+` takes an integer and a pointer
abbrev pub takes_integer_pointer : BinaryOp → Bool
takes_integer_pointer op.Add = true
takes_integer_pointer _ = false

-- `-` and comparisons take two pointers to one type
abbrev pub takes_pointers : BinaryOp → Bool
takes_pointers op.Sub = true
takes_pointers o = is_comparison o

-- every binary operator takes two integers; the rest by what it takes of pointers
abbrev pub takes_layer : BinaryOp → Ty-F Ty → Ty-F Ty → Bool
takes_layer o (Ty-F.Num a) (Ty-F.Num b) = true
takes_layer o (Ty-F.Pointer to readonly) (Ty-F.Num b) = takes_pointer_integer o
takes_layer o (Ty-F.Num a) (Ty-F.Pointer to readonly) = takes_integer_pointer o
takes_layer o (Ty-F.Pointer to readonly) (Ty-F.Pointer other other_readonly) = same to other && takes_pointers o
takes_layer o _ _ = false

unfoldable pub takes : BinaryOp → Ty → Ty → Bool
takes o left right = takes_layer o (out-Ty left) (out-Ty right)

-- `==` and `!=` also take a pointer and a constant 0
unfoldable pub takes_with_zero : BinaryOp → Ty → Bool
takes_with_zero o t = is_equality o && takes_zero t

-- `+`, `-` and `~` take an integer, `!` any scalar
abbrev pub takes_one : UnaryOp → Ty → Bool
takes_one un.Not t = is_scalar t
takes_one un.Plus t = is_integer t
takes_one un.Minus t = is_integer t
takes_one un.Complement t = is_integer t

-- the type in which an operator on integers computes: a shift in that of its promoted left side, the others in that of
-- both sides balanced
abbrev pub computed_in : BinaryOp → IntType → IntType → IntType
computed_in op.Shl a b = promoted a
computed_in op.Shr a b = promoted a
computed_in _ a b = balanced a b

-- the type to which the right side is converted before
abbrev pub right_in : BinaryOp → IntType → IntType → IntType
right_in op.Shl a b = promoted b
right_in op.Shr a b = promoted b
right_in _ a b = balanced a b

-- the type of the result: `int` of a comparison
abbrev pub result_in : BinaryOp → IntType → IntType
result_in op.Less at = Int
result_in op.Greater at = Int
result_in op.LessEq at = Int
result_in op.GreaterEq at = Int
result_in op.Equal at = Int
result_in op.NotEqual at = Int
result_in _ at = at

-- the branches of `?:` are both integers, or pointers to one type; a pointer and a constant 0 may be as well
abbrev pub branches_layer : Ty-F Ty → Ty-F Ty → Bool
branches_layer (Ty-F.Num a) (Ty-F.Num b) = true
branches_layer (Ty-F.Pointer to readonly) (Ty-F.Pointer other other_readonly) = same to other
branches_layer _ _ = false

unfoldable pub branches : Ty → Ty → Bool
branches one other = branches_layer (out-Ty one) (out-Ty other)
