-- Numbers modulo 2^16: sums and differences of words are those of the numbers.
use Rattle.std.proofs.Common.{◌≡◌, ℕ, ◌+◌, ◌-◌, ◌*◌, ◌/◌, ◌%◌, ◌<◌, ◌≤◌, sym, ap, ◌∙◌, arith, Bool, true, false, Result, Ok, Err, if◌then◌else◌}
use Rattle.std.proofs.lemmas.Int.{ints}
use Rattle.std.specs.Prelude.{ℤ, pos, negsuc, ◌+ℤ◌, ◌-ℤ◌, nat_lt}
use Rattle.base16.specs.Integer.{wrapped, signed}
use Rattle.base16.specs.declared.integer.IntType.{IntType}
use Rattle.base16.specs.declared.integer.IntType.TheVariants as int
use Rattle.c_values.specs.Operators.{as_type, number, fits_int, settled}
use Rattle.ir.specs.Typed.{IsWide}

-- a number is a word but for some times 2^16
pub record Same (z : ℤ) (w : ℕ) : Type 0 where
  pub more : ℕ
  pub over : ℕ
  pub is : z +ℤ pos (more * 65536) ≡ pos (w + over * 65536)

pub same_wrapped : (z : ℤ) → Same z (wrapped z)
same_wrapped (pos n) =
    record { more = 0; over = n / 65536; is = ap pos (let e : n + 0 * 65536 ≡ n % 65536 + n / 65536 * 65536 = omega arith in e) }
same_wrapped (negsuc n) =
    record {
      more = n / 65536 + 1;
      over = 0;
      is = (let e : negsuc n +ℤ pos ((n / 65536 + 1) * 65536) ≡ pos (65535 - n % 65536 + 0 * 65536) = omega (arith, ints) in e);
    }

pub wrapped_same : (z : ℤ) (w : ℕ) → Same z w → wrapped z ≡ w % 65536
wrapped_same (pos n) w h =
    let e = h.is in
    let k : n + h.more * 65536 ≡ w + h.over * 65536 = omega (arith, ints, e) in
    omega (arith, k)
wrapped_same (negsuc n) w h =
    let e = h.is in
    let k : w + h.over * 65536 + n + 1 ≡ h.more * 65536 = omega (arith, ints, e) in
    omega (arith, k)

pub same_sum : (x y : ℤ) (a b : ℕ) → Same x a → Same y b → Same (x +ℤ y) (a + b)
same_sum x y a b h k =
    let e = h.is in let f = k.is in
    record { more = h.more + k.more; over = h.over + k.over; is = omega (arith, ints, e, f) }

pub same_difference : (x y : ℤ) (a b : ℕ) → b ≤ 65536 → Same x a → Same y b → Same (x -ℤ y) (a + 65536 - b)
same_difference x y a b few h k =
    let e = h.is in let f = k.is in
    record { more = h.more + k.over + 1; over = h.over + k.more; is = omega (arith, ints, e, f) }

pub wrapped_small : (z : ℤ) → wrapped z < 65536
wrapped_small (pos n) = omega arith
wrapped_small (negsuc n) = omega arith

pub wrapped_sum : (x y : ℤ) → wrapped (x +ℤ y) ≡ (wrapped x + wrapped y) % 65536
wrapped_sum x y = wrapped_same (x +ℤ y) (wrapped x + wrapped y) (same_sum x y (wrapped x) (wrapped y) (same_wrapped x)
    (same_wrapped y))

pub wrapped_difference : (x y : ℤ) → wrapped (x -ℤ y) ≡ (wrapped x + 65536 - wrapped y) % 65536
wrapped_difference x y =
    let small = wrapped_small y in
    wrapped_same (x -ℤ y) (wrapped x + 65536 - wrapped y)
    (same_difference x y (wrapped x) (wrapped y) (omega arith) (same_wrapped x) (same_wrapped y))

-- ---- types

pub wrapped_signed : (w : ℕ) → w < 65536 → wrapped (signed w) ≡ w
wrapped_signed w small = from (nat_lt w 32768)
  where
    from : (b : Bool) → wrapped (if b then pos w else negsuc (65535 - w)) ≡ w
    from true = omega arith
    from false = omega arith

pub wrapped_number : (t : IntType) (v : ℤ) → wrapped (number t v) ≡ wrapped v
unfolding number
wrapped_number int.Int v = wrapped_signed (wrapped v) (wrapped_small v)
wrapped_number int.UInt v = let small = wrapped_small v in omega arith
wrapped_number int.Char v = let small = wrapped_small v in omega arith

pub wrapped_type : (t : IntType) (v : ℤ) → IsWide t → wrapped (as_type t v) ≡ wrapped v
unfolding as_type
wrapped_type int.Int v wide = wrapped_signed (wrapped v) (wrapped_small v)
wrapped_type int.UInt v wide = let small = wrapped_small v in omega arith
wrapped_type int.Char v wide = absurd wide

abbrev fine : ℤ → Result ℤ ℕ
fine z = Ok z

abbrev wrong : ℕ → Result ℤ ℕ
wrong n = Err n

pub wrapped_settled : (t : IntType) (v z : ℤ) → IsWide t → settled t v ≡ Ok z → wrapped z ≡ wrapped v
unfolding settled
wrapped_settled int.Int v z wide e = from (fits_int v) e
  where
    same : fine v ≡ fine z → v ≡ z
    same k = cc

    never : {A : Type 0} → wrong 1 ≡ fine z → A
    never k = absurd (differ k)
      where
        differ : wrong 1 ≡ fine z → ⊥
        differ j = cc

    from : (b : Bool) → (if b then fine v else wrong 1) ≡ fine z → wrapped z ≡ wrapped v
    from true k = ap wrapped (sym (same k))
    from false k = never k
wrapped_settled int.UInt v z wide e = ap wrapped (sym (same e)) ∙ wrapped_type int.UInt v tt
  where
    same : fine (as_type int.UInt v) ≡ fine z → as_type int.UInt v ≡ z
    same k = cc
wrapped_settled int.Char v z wide e = absurd wide
