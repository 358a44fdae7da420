-- What operators, conversions and stores make of values of their shapes has the shape of its type, or one of the rules is
-- broken.
use Rattle.std.proofs.Common.{◌≡◌, ℕ, ◌*◌, ◌^◌, ℤ, pos, negsuc, Bool, true, false, ◌&&◌, cond, List, [], ◌∷◌, Option, Some, None, refl}
use Rattle.std.specs.Prelude.{Result, Ok, Err, ◌||◌, ◌+ℤ◌, ◌-ℤ◌, int_rem, int_div, nat_eq, nat_le, is_none}
use Rattle.base16.specs.declared.image.Kind.{Kind}
use Rattle.base16.specs.declared.image.Kind.TheVariants as kind
use Rattle.base16.specs.declared.integer.IntType.{IntType}
use Rattle.base16.specs.declared.integer.IntType.TheVariants as int
use Rattle.base16.specs.declared.operator.BinaryOp.{BinaryOp}
use Rattle.base16.specs.declared.operator.BinaryOp.TheVariants as op
use Rattle.base16.specs.declared.operator.UnaryOp.{UnaryOp}
use Rattle.base16.specs.declared.operator.UnaryOp.TheVariants as un
use Rattle.core_tree.specs.Rules.{is_comparison}
use Rattle.c_values.specs.declared.value.Value.{Value}
use Rattle.c_values.specs.declared.value.Value.TheVariants.{Int, Pointer, Null, Undefined}
use Rattle.c_values.specs.declared.value.Location.{Location}
use Rattle.c_values.specs.declared.state.Object.{Object}
use Rattle.c_values.specs.declared.state.State.{State}
use Rattle.c_values.specs.Operators.{number, unary, binary, settled, if_settled, shifted_left, shifted_right, count_of, is_zero, is_count, fits_int}
use Rattle.c_values.specs.Objects.{object_of}
use Rattle.c_values.specs.Pointers.{at, pointed, within, moved, moved_from, moved_if, gone, gone_at, element, scaled, further, sum_with, sum_of, pointer_at, pointer_to, pointer_within, address_in, address_from, address, truth_of, compared_offsets, at_end, unordered, apart, compared_alive, compared, divided, difference_alive, difference, end_of}
use Rattle.c_values.specs.Values.{integer, int_value, numbered, present, fitted, right_type, without_left, without_right, is_negative, operated, negated, operated_alone, operated_one, converted, zero_of, all_present}
use Rattle.c_soundness.specs.Shapes.{IsInteger, IsPointer, IsIn, MayStand, holds_pointer}
use Rattle.c_soundness.proofs.Triples.{is_rule, Granted, Any, granted_if}

-- ---- integers

granted_settled : (t : IntType) (v : ℤ) → Granted Any (settled t v)
unfolding settled
granted_settled int.Int v = granted_if Any (fits_int v) (Ok v) (Err 1) tt refl
granted_settled int.UInt v = tt
granted_settled int.Char v = tt

granted_if_settled : (x : Result ℤ ℕ) (v : ℤ) → Granted {A = ℤ} Any x → Granted {A = ℤ} Any (if_settled x v)
granted_if_settled (Ok a) v h = tt
granted_if_settled (Err n) v h = h

granted_shifted : (t : IntType) (v : ℤ) (k : ℕ) → Granted Any (shifted_left t v k)
unfolding shifted_left
granted_shifted int.Int (negsuc n) k = refl
granted_shifted int.Int (pos n) k = granted_if Any (nat_le (n * 2 ^ k) 32767) (Ok (pos (n * 2 ^ k))) (Err 3) tt refl
granted_shifted int.UInt v k = tt
granted_shifted int.Char v k = tt

granted_binary : (o : BinaryOp) (t : IntType) (a b : ℤ) → Granted Any (binary o t a b)
unfolding binary
granted_binary op.Add t a b = granted_settled t _
granted_binary op.Sub t a b = granted_settled t _
granted_binary op.Mul t a b = granted_settled t _
granted_binary op.Div t a b = granted_if Any (is_zero b) _ _ refl (granted_settled t _)
granted_binary op.Rem t a b = granted_if Any (is_zero b) _ _ refl (granted_if_settled _ _ (granted_settled t _))
granted_binary op.Shl t a b = granted_if Any (is_count b) _ _ (granted_shifted t a (count_of b)) refl
granted_binary op.Shr t a b = granted_if Any (is_count b) (Ok (shifted_right a (count_of b))) (Err 3) tt refl
granted_binary op.Less t a b = tt
granted_binary op.Greater t a b = tt
granted_binary op.LessEq t a b = tt
granted_binary op.GreaterEq t a b = tt
granted_binary op.Equal t a b = tt
granted_binary op.NotEqual t a b = tt
granted_binary op.And t a b = tt
granted_binary op.Xor t a b = tt
granted_binary op.Or t a b = tt

granted_unary : (o : UnaryOp) (t : IntType) (v : ℤ) → Granted Any (unary o t v)
unfolding unary
granted_unary un.Plus t v = tt
granted_unary un.Minus t v = granted_settled t _
granted_unary un.Complement t v = tt
granted_unary un.Not t v = tt

pub granted_int : (x : Result ℤ ℕ) → Granted {A = ℤ} Any x → Granted IsInteger (int_value x)
granted_int (Ok z) h = tt
granted_int (Err n) h = h

abbrev IsRule : ℕ → Type 0
IsRule n = is_rule n ≡ true

rule_if : (b : Bool) (m n : ℕ) → IsRule m → IsRule n → IsRule (cond b m n)
rule_if true m n h i = h
rule_if false m n h i = i

rule_left : (o : BinaryOp) (b : ℤ) → IsRule (without_left o b)
rule_left op.Div b = rule_if (is_zero b) 2 11 refl refl
rule_left op.Rem b = rule_if (is_zero b) 2 11 refl refl
rule_left op.Shl b = rule_if (is_count b) 11 3 refl refl
rule_left op.Shr b = rule_if (is_count b) 11 3 refl refl
rule_left op.Add b = refl
rule_left op.Sub b = refl
rule_left op.Mul b = refl
rule_left op.Less b = refl
rule_left op.Greater b = refl
rule_left op.LessEq b = refl
rule_left op.GreaterEq b = refl
rule_left op.Equal b = refl
rule_left op.NotEqual b = refl
rule_left op.And b = refl
rule_left op.Xor b = refl
rule_left op.Or b = refl

rule_right : (o : BinaryOp) (t : IntType) (a : ℤ) → IsRule (without_right o t a)
rule_right op.Shl int.Int a = rule_if (is_negative a) 3 11 refl refl
rule_right op.Shl int.UInt a = refl
rule_right op.Shl int.Char a = refl
rule_right op.Shr t a = refl
rule_right op.Div t a = refl
rule_right op.Rem t a = refl
rule_right op.Add t a = refl
rule_right op.Sub t a = refl
rule_right op.Mul t a = refl
rule_right op.Less t a = refl
rule_right op.Greater t a = refl
rule_right op.LessEq t a = refl
rule_right op.GreaterEq t a = refl
rule_right op.Equal t a = refl
rule_right op.NotEqual t a = refl
rule_right op.And t a = refl
rule_right op.Xor t a = refl
rule_right op.Or t a = refl

pub granted_operated : (o : BinaryOp) (t own : IntType) (a b : Value) → IsInteger a → IsInteger b
    → Granted IsInteger (operated o t own a b)
unfolding operated
granted_operated o t own (Int a) (Int b) h i = granted_int (binary o t (number t a) (number (right_type o t own) b))
    (granted_binary o t (number t a) (number (right_type o t own) b))
granted_operated o t own Undefined (Int b) h i = rule_left o (number (right_type o t own) b)
granted_operated o t own (Int a) Undefined h i = rule_right o t (number t a)
granted_operated o t own Undefined Undefined h i = refl
granted_operated o t own (Pointer n x) b h i = absurd h
granted_operated o t own Null b h i = absurd h
granted_operated o t own (Int a) (Pointer n x) h i = absurd i
granted_operated o t own (Int a) Null h i = absurd i
granted_operated o t own Undefined (Pointer n x) h i = absurd i
granted_operated o t own Undefined Null h i = absurd i

granted_negated : (x : Result Bool ℕ) → Granted {A = Bool} Any x → Granted IsInteger (negated x)
granted_negated (Ok b) h = tt
granted_negated (Err n) h = h

pub granted_truth : (s : State) (t : IntType) (v : Value) → Granted {A = Bool} Any (truth_of s (numbered t v))
unfolding truth_of
granted_truth s t (Int z) = tt
granted_truth s t (Pointer n offset) = granted_if Any (is_none (object_of s n)) (Err 6) (Ok true) refl tt
granted_truth s t Null = tt
granted_truth s t Undefined = refl

pub granted_not : (s : State) (t : IntType) (v : Value) → Granted IsInteger (operated_one s un.Not t v)
unfolding operated_one
granted_not s t v = granted_negated (truth_of s (numbered t v)) (granted_truth s t v)

granted_alone : (o : UnaryOp) (t : IntType) (v : Value) → IsInteger v → Granted IsInteger (operated_alone o t v)
granted_alone o t (Int z) h = granted_int (unary o t (number t z)) (granted_unary o t (number t z))
granted_alone o t Undefined h = refl
granted_alone o t (Pointer n x) h = absurd h
granted_alone o t Null h = absurd h

pub granted_one : (s : State) (o : UnaryOp) (t : IntType) (v : Value) → IsInteger v → Granted IsInteger (operated_one s o t v)
unfolding operated_one
granted_one s un.Not t v h = granted_negated (truth_of s (numbered t v)) (granted_truth s t v)
granted_one s un.Plus t v h = granted_alone un.Plus t v h
granted_one s un.Minus t v h = granted_alone un.Minus t v h
granted_one s un.Complement t v h = granted_alone un.Complement t v h

pub granted_integer : (v : Value) → IsInteger v → Granted {A = ℤ} Any (integer v)
granted_integer (Int z) h = tt
granted_integer Undefined h = refl
granted_integer (Pointer n x) h = absurd h
granted_integer Null h = absurd h

pub numbered_integer : (t : IntType) (v : Value) → IsInteger v → IsInteger (numbered t v)
numbered_integer t (Int z) h = tt
numbered_integer t Undefined h = tt
numbered_integer t (Pointer n x) h = h
numbered_integer t Null h = h

pub granted_present : (P : Value → Type 0) (v : Value) → P v → Granted P (present v)
granted_present P (Int z) h = h
granted_present P (Pointer n x) h = h
granted_present P Null h = h
granted_present P Undefined h = refl

pub granted_all : (vs : List Value) → Granted {A = Unit {0}} Any (all_present vs)
granted_all [] = tt
granted_all (Int z ∷ vs) = granted_all vs
granted_all (Pointer n x ∷ vs) = granted_all vs
granted_all (Null ∷ vs) = granted_all vs
granted_all (Undefined ∷ vs) = refl

-- ---- conversions and stores

pub granted_converted : (t : IntType) (v : Value) → IsInteger v → Granted IsInteger (converted t v)
unfolding converted
granted_converted t (Int z) h = tt
granted_converted t Undefined h = refl
granted_converted t (Pointer n x) h = absurd h
granted_converted t Null h = absurd h

pub fitted_integer : (k : Kind) (v : Value) → holds_pointer k ≡ false → IsInteger v → Granted IsInteger (fitted k v)
unfolding fitted
fitted_integer kind.Char (Int z) e h = tt
fitted_integer kind.Int (Int z) e h = tt
fitted_integer kind.UInt (Int z) e h = tt
fitted_integer kind.Char Undefined e h = refl
fitted_integer kind.Int Undefined e h = refl
fitted_integer kind.UInt Undefined e h = refl
fitted_integer kind.Pointer v e h = absurd cc
fitted_integer kind.Char (Pointer n x) e h = absurd h
fitted_integer kind.Int (Pointer n x) e h = absurd h
fitted_integer kind.UInt (Pointer n x) e h = absurd h
fitted_integer kind.Char Null e h = absurd h
fitted_integer kind.Int Null e h = absurd h
fitted_integer kind.UInt Null e h = absurd h

pub zero_stands : (k : Kind) → MayStand (holds_pointer k) (zero_of k)
zero_stands kind.Char = tt
zero_stands kind.Int = tt
zero_stands kind.UInt = tt
zero_stands kind.Pointer = tt

-- ---- pointers, into objects of which something holds

-- a pointer is a word
abbrev pub holds_word : IntType → Bool
holds_word int.Char = false
holds_word int.Int = true
holds_word int.UInt = true

module _ (Q : Type 0) where
  pub converted_pointer : (t : IntType) (v : Value) → holds_word t ≡ true → IsPointer Q v → Granted (IsPointer Q) (converted t v)
  unfolding converted
  converted_pointer t (Int z) w h = absurd h
  converted_pointer int.Char (Pointer n x) w h = absurd cc
  converted_pointer int.Int (Pointer n x) w h = h
  converted_pointer int.UInt (Pointer n x) w h = h
  converted_pointer int.Char Null w h = absurd cc
  converted_pointer int.Int Null w h = tt
  converted_pointer int.UInt Null w h = tt
  converted_pointer t Undefined w h = refl

  pub fitted_pointer : (v : Value) → IsPointer Q v → Granted (IsPointer Q) (fitted kind.Pointer v)
  unfolding fitted
  fitted_pointer (Int z) h = absurd h
  fitted_pointer (Pointer n x) h = h
  fitted_pointer Null h = tt
  fitted_pointer Undefined h = refl

  abbrev At : Location → Type 0
  At l = IsIn Q l.object

  pub granted_pointed : (v : Value) → IsPointer Q v → Granted At (pointed v)
  granted_pointed (Int z) h = absurd h
  granted_pointed (Pointer n x) h = h
  granted_pointed Null h = tt
  granted_pointed Undefined h = refl

  granted_within : (n : ℕ) (z : ℤ) (o : Option Object) → Q → Granted At (within n z o)
  granted_within n (pos offset) (Some o) h = granted_if At (nat_le offset (end_of o)) (Ok (at n offset)) (Err 4) h refl
  granted_within n (negsuc offset) (Some o) h = refl
  granted_within n (pos offset) None h = refl
  granted_within n (negsuc offset) None h = refl

  granted_from : (s : State) (z : ℤ) (o : Option ℕ) → IsIn Q o → Granted At (moved_from s z o)
  granted_from s z None h = refl
  granted_from s z (Some n) h = granted_within n z (object_of s n) h

  granted_moved : (s : State) (l : Location) (z : ℤ) → At l → Granted At (moved s l z)
  unfolding moved
  granted_moved s l z h = granted_from s (further l.offset z) l.object h

  granted_moved_if : (s : State) (x : Result Location ℕ) (z : ℤ) → Granted At x → Granted At (moved_if s x z)
  granted_moved_if s (Ok l) z h = granted_moved s l z h
  granted_moved_if s (Err n) z h = h

  pub granted_element : (s : State) (size : ℕ) (l : Location) (i : Value) → At l → IsInteger i → Granted At (element s size l i)
  granted_element s size l (Int i) h j = granted_moved s l _ h
  granted_element s size l Undefined h j = rule_err (gone_at s l.object)
    where
      rule_err : (b : Bool) → Granted At (cond b (Err 6) (Err 11))
      rule_err true = refl
      rule_err false = refl
  granted_element s size l (Pointer n x) h j = absurd j
  granted_element s size l Null h j = absurd j

  granted_sum_with : (s : State) (minus : Bool) (size : ℕ) (a b : Value) → IsPointer Q a → IsInteger b
      → Granted At (sum_with s minus size a b)
  granted_sum_with s minus size a (Int j) h i = granted_moved_if s (pointed a) (scaled minus j size) (granted_pointed a h)
  granted_sum_with s minus size a Undefined h i = rule_err (gone s a)
    where
      rule_err : (b : Bool) → Granted At (cond b (Err 6) (Err 11))
      rule_err true = refl
      rule_err false = refl
  granted_sum_with s minus size a (Pointer m y) h i = absurd i
  granted_sum_with s minus size a Null h i = absurd i

  pub granted_sum : (s : State) (swapped minus : Bool) (size : ℕ) (a b : Value) → swapped ≡ false → IsPointer Q a
      → IsInteger b → Granted At (sum_of s swapped minus size a b)
  unfolding sum_of
  granted_sum s true minus size a b e h i = absurd cc
  granted_sum s false minus size a b e h i = granted_sum_with s minus size a b h i

  pub granted_sum_other : (s : State) (swapped minus : Bool) (size : ℕ) (a b : Value) → swapped ≡ true → IsInteger a
      → IsPointer Q b → Granted At (sum_of s swapped minus size a b)
  unfolding sum_of
  granted_sum_other s true minus size a b e h i = granted_sum_with s minus size b a i h
  granted_sum_other s false minus size a b e h i = absurd cc

  pointer_in : (offset : ℕ) (o : Option ℕ) → IsIn Q o → IsPointer Q (pointer_at offset o)
  pointer_in offset None h = tt
  pointer_in offset (Some n) h = h

  pub granted_pointer : (x : Result Location ℕ) → Granted At x → Granted (IsPointer Q) (pointer_to x)
  granted_pointer (Ok l) h = pointer_in l.offset l.object h
  granted_pointer (Err n) h = h

  granted_inside : (n offset end : ℕ) → Q → Granted (IsPointer Q) (pointer_within n offset end)
  granted_inside n offset end h = granted_if (IsPointer Q) (nat_le offset end) (Ok (Pointer n offset)) (Err 4) h refl

  granted_address_in : (n offset : ℕ) (o : Option Object) → Q → Granted (IsPointer Q) (address_in n offset o)
  granted_address_in n offset None h = granted_inside n offset 65535 h
  granted_address_in n offset (Some o) h = granted_inside n offset (end_of o) h

  granted_address_from : (s : State) (offset : ℕ) (o : Option ℕ) → IsIn Q o → Granted (IsPointer Q) (address_from s offset o)
  granted_address_from s offset None h = granted_if (IsPointer Q) (nat_eq offset 0) (Ok Null) (Err 12) tt refl
  granted_address_from s offset (Some n) h = granted_address_in n offset (object_of s n) h

  pub granted_address : (s : State) (l : Location) → At l → Granted (IsPointer Q) (address s l)
  unfolding address
  granted_address s l h = granted_address_from s l.offset l.object h

pub fitted_stands : (k : Kind) (v : Value) → MayStand (holds_pointer k) v → Granted (MayStand (holds_pointer k)) (fitted k v)
fitted_stands kind.Char v h = fitted_integer kind.Char v refl h
fitted_stands kind.Int v h = fitted_integer kind.Int v refl h
fitted_stands kind.UInt v h = fitted_integer kind.UInt v refl h
fitted_stands kind.Pointer v h = fitted_pointer (Unit {0}) v h

-- ---- comparisons and differences

offsets_compared : (o : BinaryOp) (a b : ℕ) → is_comparison o ≡ true → Granted Any (compared_offsets o a b)
offsets_compared op.Less a b e = tt
offsets_compared op.Greater a b e = tt
offsets_compared op.LessEq a b e = tt
offsets_compared op.GreaterEq a b e = tt
offsets_compared op.Equal a b e = tt
offsets_compared op.NotEqual a b e = tt
offsets_compared op.Add a b e = absurd cc
offsets_compared op.Sub a b e = absurd cc
offsets_compared op.Mul a b e = absurd cc
offsets_compared op.Div a b e = absurd cc
offsets_compared op.Rem a b e = absurd cc
offsets_compared op.Shl a b e = absurd cc
offsets_compared op.Shr a b e = absurd cc
offsets_compared op.And a b e = absurd cc
offsets_compared op.Xor a b e = absurd cc
offsets_compared op.Or a b e = absurd cc

unordered_granted : (o : BinaryOp) (same : Bool) → Granted Any (unordered o same 12)
unordered_granted op.Equal same = tt
unordered_granted op.NotEqual same = tt
unordered_granted op.Less same = refl
unordered_granted op.Greater same = refl
unordered_granted op.LessEq same = refl
unordered_granted op.GreaterEq same = refl
unordered_granted op.Add same = refl
unordered_granted op.Sub same = refl
unordered_granted op.Mul same = refl
unordered_granted op.Div same = refl
unordered_granted op.Rem same = refl
unordered_granted op.Shl same = refl
unordered_granted op.Shr same = refl
unordered_granted op.And same = refl
unordered_granted op.Xor same = refl
unordered_granted op.Or same = refl

apart_granted : (o : BinaryOp) (ends : Bool) → Granted Any (apart o ends)
apart_granted op.Equal ends = granted_if Any ends (Err 10) (Ok (pos 0)) refl tt
apart_granted op.NotEqual ends = granted_if Any ends (Err 10) (Ok (pos 1)) refl tt
apart_granted op.Less ends = refl
apart_granted op.Greater ends = refl
apart_granted op.LessEq ends = refl
apart_granted op.GreaterEq ends = refl
apart_granted op.Add ends = refl
apart_granted op.Sub ends = refl
apart_granted op.Mul ends = refl
apart_granted op.Div ends = refl
apart_granted op.Rem ends = refl
apart_granted op.Shl ends = refl
apart_granted op.Shr ends = refl
apart_granted op.And ends = refl
apart_granted op.Xor ends = refl
apart_granted op.Or ends = refl

alive_compared : (Q U : Type 0) (s : State) (o : BinaryOp) (a b : Value) → is_comparison o ≡ true → IsPointer Q a → IsPointer U b
    → Granted Any (compared_alive s o a b)
alive_compared Q U s o (Pointer m x) (Pointer n y) e h i =
    granted_if Any (nat_eq m n) (compared_offsets o x y) (apart o (at_end x (object_of s m) || at_end y (object_of s n)))
    (offsets_compared o x y e) (apart_granted o (at_end x (object_of s m) || at_end y (object_of s n)))
alive_compared Q U s o Undefined (Pointer n y) e h i = refl
alive_compared Q U s o Undefined Null e h i = refl
alive_compared Q U s o Undefined Undefined e h i = refl
alive_compared Q U s o (Pointer n y) Undefined e h i = refl
alive_compared Q U s o Null Undefined e h i = refl
alive_compared Q U s o Null Null e h i = unordered_granted o true
alive_compared Q U s o Null (Pointer n y) e h i = unordered_granted o false
alive_compared Q U s o (Pointer m x) Null e h i = unordered_granted o false
alive_compared Q U s o (Int z) b e h i = absurd h
alive_compared Q U s o (Pointer m x) (Int z) e h i = absurd i
alive_compared Q U s o Null (Int z) e h i = absurd i
alive_compared Q U s o Undefined (Int z) e h i = absurd i

pub granted_compared : (Q U : Type 0) (s : State) (o : BinaryOp) (a b : Value) → is_comparison o ≡ true → IsPointer Q a
    → IsPointer U b
    → Granted Any (compared s o a b)
unfolding compared
granted_compared Q U s o a b e h i =
    granted_if Any (gone s a || gone s b) (Err 6) (compared_alive s o a b) refl (alive_compared Q U s o a b e h i)

divided_by : (z : ℤ) (size : ℕ) (none fits : Bool) → none ≡ false
    → Granted {A = ℤ} Any (cond none (Err 0) (cond fits (Ok (int_div z (pos size))) (Err 9)))
divided_by z size true fits e = absurd cc
divided_by z size false fits e = granted_if Any fits (Ok (int_div z (pos size))) (Err 9) tt refl

alive_difference : (Q U : Type 0) (size : ℕ) (a b : Value) → (Q → nat_eq size 0 ≡ false) → IsPointer Q a → IsPointer U b
    → Granted Any (difference_alive size a b)
alive_difference Q U size (Pointer m x) (Pointer n y) e h i =
    granted_if Any (nat_eq m n) (divided (pos x -ℤ pos y) size) (Err 9)
    (divided_by (pos x -ℤ pos y) size (nat_eq size 0) (nat_le size 32767 && is_zero (int_rem (pos x -ℤ pos y) (pos size))) (e h)) refl
alive_difference Q U size Undefined (Pointer n y) e h i = refl
alive_difference Q U size Undefined Null e h i = refl
alive_difference Q U size Undefined Undefined e h i = refl
alive_difference Q U size (Pointer n y) Undefined e h i = refl
alive_difference Q U size Null Undefined e h i = refl
alive_difference Q U size Null Null e h i = refl
alive_difference Q U size Null (Pointer n y) e h i = refl
alive_difference Q U size (Pointer m x) Null e h i = refl
alive_difference Q U size (Int z) b e h i = absurd h
alive_difference Q U size (Pointer m x) (Int z) e h i = absurd i
alive_difference Q U size Null (Int z) e h i = absurd i
alive_difference Q U size Undefined (Int z) e h i = absurd i

pub granted_difference : (Q U : Type 0) (s : State) (size : ℕ) (a b : Value) → (Q → nat_eq size 0 ≡ false) → IsPointer Q a
    → IsPointer U b
    → Granted Any (difference s size a b)
unfolding difference
granted_difference Q U s size a b e h i =
    granted_if Any (gone s a || gone s b) (Err 6) (difference_alive size a b) refl (alive_difference Q U size a b e h i)
