-- Arithmetic and comparison of pointers: what they give, or the least rule that is broken (C99 6.5.6, 6.5.8, 6.5.9).
-- The bounds are those of the whole object: rule 4 outside them, 6 an object that is gone, 9 and 10 two objects, 11 a
-- value that is missing, 12 the null pointer. An object that is gone has no bounds.
use Rattle.std.specs.Prelude.{ℕ, ◌+◌, min, ℤ, pos, negsuc, ◌+ℤ◌, ◌-ℤ◌, ◌*ℤ◌, neg_ℤ, int_div, int_rem, nat_eq, nat_le, nat_lt, Bool, true, false, not, ◌&&◌, ◌||◌, if◌then◌else◌, Option, Some, None, is_none, Result, Ok, Err}
use Rattle.base16.specs.declared.operator.BinaryOp.{BinaryOp}
use Rattle.base16.specs.declared.operator.BinaryOp.TheVariants as op
use Rattle.c_values.specs.declared.value.Value.{Value}
use Rattle.c_values.specs.declared.value.Value.TheVariants.{Int, Pointer, Null, Undefined}
use Rattle.c_values.specs.declared.value.Location.{Location}
use Rattle.c_values.specs.declared.state.Object.{Object}
use Rattle.c_values.specs.declared.state.State.{State}
use Rattle.c_values.specs.Operators.{truth, is_zero}
use Rattle.c_values.specs.Objects.{object_of, object_size}

-- no rule, but what no lawful program asks for, as the sum of two pointers
abbrev pub unlawful : ℕ
unlawful = 0

-- an offset in which 65,536 stands for all above 65,535
abbrev pub capped : ℕ → ℕ
capped n = min n 65536

abbrev pub at : ℕ → ℕ → Location
at n offset = record { object = Some n; offset = offset }

abbrev pub through_null : Location
through_null = record { object = None; offset = 0 }

-- the greatest offset that a pointer into an object has; 65,535 is the greatest of all
abbrev pub end_of : Object → ℕ
end_of o = min (object_size o) 65535

abbrev pub gone : State → Value → Bool
gone s (Pointer n offset) = is_none (object_of s n)
gone s _ = false

-- ---- places

-- the place that a pointer points to
abbrev pub pointed : Value → Result Location ℕ
pointed (Pointer n offset) = Ok (at n offset)
pointed Null = Ok through_null
pointed Undefined = Err 11
pointed (Int z) = Err unlawful

-- a part of a place
abbrev pub member_at : Location → ℕ → Location
member_at l offset = record l { offset = capped (l.offset + offset) }

abbrev pub within : ℕ → ℤ → Option Object → Result Location ℕ
within n (pos offset) (Some o) = if nat_le offset (end_of o) then Ok (at n offset) else Err 4
within n (negsuc offset) (Some o) = Err 4
within n z None = Err 6

abbrev pub moved_from : State → ℤ → Option ℕ → Result Location ℕ
moved_from s offset None = Err 12
moved_from s offset (Some n) = within n offset (object_of s n)

-- the offset so many bytes further; no way leads back from the one that stands for all great ones
abbrev pub further : ℕ → ℤ → ℤ
further offset by = if nat_lt offset 65536 then pos offset +ℤ by else pos 65536

-- the place that lies a number of bytes further
unfoldable pub moved : State → Location → ℤ → Result Location ℕ
moved s l by = moved_from s (further l.offset by) l.object

abbrev pub moved_if : State → Result Location ℕ → ℤ → Result Location ℕ
moved_if s (Ok l) by = moved s l by
moved_if s (Err e) by = Err e

abbrev pub gone_at : State → Option ℕ → Bool
gone_at s None = false
gone_at s (Some n) = is_none (object_of s n)

-- an element of an array at a place
abbrev pub element : State → ℕ → Location → Value → Result Location ℕ
element s size l (Int i) = moved s l (i *ℤ pos size)
element s size l Undefined = if gone_at s l.object then Err 6 else Err 11
element s size l _ = Err unlawful

abbrev pub scaled : Bool → ℤ → ℕ → ℤ
scaled minus i size = if minus then neg_ℤ (i *ℤ pos size) else i *ℤ pos size

-- a pointer moved by an integer, which counts elements of a size
abbrev pub sum_with : State → (minus : Bool) → ℕ → (pointer integer : Value) → Result Location ℕ
sum_with s minus size a (Int i) = moved_if s (pointed a) (scaled minus i size)
sum_with s minus size a Undefined = if gone s a then Err 6 else Err 11
sum_with s minus size a _ = Err unlawful

-- a pointer and an integer, which is the left one where they are swapped
unfoldable pub sum_of : State → (swapped minus : Bool) → ℕ → Value → Value → Result Location ℕ
sum_of s true minus size a b = sum_with s minus size b a
sum_of s false minus size a b = sum_with s minus size a b

abbrev pub pointer_at : ℕ → Option ℕ → Value
pointer_at offset None = Null
pointer_at offset (Some n) = Pointer n offset

abbrev pub pointer_to : Result Location ℕ → Result Value ℕ
pointer_to (Ok l) = Ok (pointer_at l.offset l.object)
pointer_to (Err e) = Err e

abbrev pub pointer_within : ℕ → ℕ → ℕ → Result Value ℕ
pointer_within n offset end = if nat_le offset end then Ok (Pointer n offset) else Err 4

-- an object that is gone has no end but that of all offsets
abbrev pub address_in : ℕ → ℕ → Option Object → Result Value ℕ
address_in n offset None = pointer_within n offset 65535
address_in n offset (Some o) = pointer_within n offset (end_of o)

abbrev pub address_from : State → ℕ → Option ℕ → Result Value ℕ
address_from s offset None = if nat_eq offset 0 then Ok Null else Err 12
address_from s offset (Some n) = address_in n offset (object_of s n)

-- the pointer to a place
unfoldable pub address : State → Location → Result Value ℕ
address s l = address_from s l.offset l.object

-- ---- tests

unfoldable pub truth_of : State → Value → Result Bool ℕ
truth_of s (Int z) = Ok (not (is_zero z))
truth_of s (Pointer n offset) = if is_none (object_of s n) then Err 6 else Ok true
truth_of s Null = Ok false
truth_of s Undefined = Err 11

abbrev pub compared_offsets : BinaryOp → ℕ → ℕ → Result ℤ ℕ
compared_offsets op.Less a b = Ok (truth (nat_lt a b))
compared_offsets op.Greater a b = Ok (truth (nat_lt b a))
compared_offsets op.LessEq a b = Ok (truth (nat_le a b))
compared_offsets op.GreaterEq a b = Ok (truth (nat_le b a))
compared_offsets op.Equal a b = Ok (truth (nat_eq a b))
compared_offsets op.NotEqual a b = Ok (truth (not (nat_eq a b)))
compared_offsets _ a b = Err unlawful

abbrev pub at_end : ℕ → Option Object → Bool
at_end offset None = false
at_end offset (Some o) = nat_eq offset (end_of o)

-- pointers that are equal or not, and in no order, or else a rule
abbrev pub unordered : BinaryOp → Bool → ℕ → Result ℤ ℕ
unordered op.Equal same rule = Ok (truth same)
unordered op.NotEqual same rule = Ok (truth (not same))
unordered _ same rule = Err rule

abbrev pub apart : BinaryOp → Bool → Result ℤ ℕ
apart op.Equal ends = if ends then Err 10 else Ok (pos 0)
apart op.NotEqual ends = if ends then Err 10 else Ok (pos 1)
apart _ ends = Err 9

abbrev pub compared_alive : State → BinaryOp → Value → Value → Result ℤ ℕ
compared_alive s o (Pointer m a) (Pointer n b) =
    if nat_eq m n then compared_offsets o a b else apart o (at_end a (object_of s m) || at_end b (object_of s n))
compared_alive s o Undefined _ = Err 11
compared_alive s o _ Undefined = Err 11
compared_alive s o Null Null = unordered o true 12
compared_alive s o Null (Pointer n b) = unordered o false 12
compared_alive s o (Pointer m a) Null = unordered o false 12
compared_alive s o _ _ = Err unlawful

unfoldable pub compared : State → BinaryOp → Value → Value → Result ℤ ℕ
compared s o a b = if gone s a || gone s b then Err 6 else compared_alive s o a b

-- so many elements of a size as are so many bytes; elements of more than 32,767 bytes have no difference
abbrev pub divided : ℤ → ℕ → Result ℤ ℕ
divided z size =
    if nat_eq size 0 then Err unlawful else (
    if nat_le size 32767 && is_zero (int_rem z (pos size)) then Ok (int_div z (pos size)) else Err 9)

abbrev pub difference_alive : ℕ → Value → Value → Result ℤ ℕ
difference_alive size (Pointer m a) (Pointer n b) = if nat_eq m n then divided (pos a -ℤ pos b) size else Err 9
difference_alive size Undefined _ = Err 11
difference_alive size _ Undefined = Err 11
difference_alive size (Int _) _ = Err unlawful
difference_alive size _ (Int _) = Err unlawful
difference_alive size _ _ = Err 12

-- how many elements of a size lie between two pointers
unfoldable pub difference : State → ℕ → Value → Value → Result ℤ ℕ
difference s size a b = if gone s a || gone s b then Err 6 else difference_alive size a b
