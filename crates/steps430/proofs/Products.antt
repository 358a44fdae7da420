-- What the helper routines compute of words are the words of what C's operators give.
use Rattle.std.proofs.Common.{◌≡◌, ◌≢◌, ℕ, zero, suc, ◌+◌, ◌-◌, ◌*◌, ◌/◌, ◌%◌, ◌^◌, ◌<◌, ◌≤◌, refl, sym, ap, ◌∙◌, subst, arith, Bool, true, false, Result, Ok, Err, if◌then◌else◌}
use Rattle.std.proofs.Math.Nat.{mod-le, div-le_self}
use Rattle.std.proofs.lemmas.Bool.Decides.{nat_tests}
use Rattle.std.specs.Prelude.{ℤ, pos, negsuc, neg_ℤ, ◌*ℤ◌, int_div, int_rem, nat_lt, nat_le}
use Rattle.base16.specs.Integer.{wrapped}
use Rattle.base16.specs.declared.integer.IntType.{IntType}
use Rattle.base16.specs.declared.integer.IntType.TheVariants as int
use Rattle.base16.specs.declared.operator.BinaryOp.{BinaryOp}
use Rattle.base16.specs.declared.operator.BinaryOp.TheVariants as op
use Rattle.rt430.specs.declared.words.Helper.{Helper}
use Rattle.rt430.specs.declared.words.Helper.TheVariants.{Mul16, Udiv16, Umod16, Sdiv16, Smod16, Shl, Shr, Sar}
use Rattle.rt430.specs.Operators.{value, HasValue, halved}
use Rattle.c_values.specs.Operators.{as_type, number, settled, binary, is_zero, is_count, count_of, shifted_right, shifted_left, if_settled}
use Rattle.c_values.specs.Values.{right_type}
use Rattle.ir.specs.Typed.{IsWide}
use Rattle.steps430.proofs.Words.{wrapped_number, wrapped_settled, wrapped_small}

-- ---- products modulo 2^16

-- the product of two words is that of the numbers but for some times 2^16
product_mod : (m n : ℕ) → (m * n) % 65536 ≡ ((m % 65536) * (n % 65536)) % 65536
product_mod m n =
    let a : ℕ = m % 65536 in
    let b : ℕ = n % 65536 in
    let u : ℕ = m / 65536 in
    let v : ℕ = n / 65536 in
    let em : m ≡ a + 65536 * u = omega arith in
    let en : n ≡ b + 65536 * v = omega arith in
    let k : ℕ = a * v + u * b + 65536 * (u * v) in
    let wide : (a + 65536 * u) * (b + 65536 * v) ≡ a * b + 65536 * k = omega arith in
    let same : m * n ≡ a * b + 65536 * k = ap (λ (z : ℕ). z * n) em ∙ ap (λ (z : ℕ). (a + 65536 * u) * z) en ∙ wide in
    omega (arith, same)

-- a number from 2^16 down by so much
wrapped_negative : (n : ℕ) (w : ℕ) (k : ℕ) → w + n ≡ 65536 * k → w % 65536 ≡ wrapped (neg_ℤ (pos n))
wrapped_negative zero w k e = omega (arith, e)
wrapped_negative (suc n) w k e = omega (arith, e)

-- a word and so many times 2^16, and one that is so much below
mixed : (m e a u c k : ℕ) → m ≡ a + 65536 * u → c + e ≡ 65536 * k → a * c + m * e ≡ 65536 * (a * k + u * e)
mixed m e a u c k h j =
    let one : m * e ≡ (a + 65536 * u) * e = ap (λ (z : ℕ). z * e) h in
    let two : a * (c + e) ≡ a * (65536 * k) = ap (λ (z : ℕ). a * z) j in
    omega (arith, one, two)

negatives : (c d e f k l : ℕ) → c + e ≡ 65536 * k → d + f ≡ 65536 * l → (e * f) % 65536 ≡ (c * d) % 65536
negatives c d e f k l h j =
    let one : (c + e) * d ≡ 65536 * k * d = ap (λ (z : ℕ). z * d) h in
    let two : e * (d + f) ≡ e * (65536 * l) = ap (λ (z : ℕ). e * z) j in
    let all : c * d + 65536 * (e * l) ≡ e * f + 65536 * (k * d) = omega (arith, one, two) in
    omega (arith, all)

-- each number is a word that is 2^16 some times over, or below so many times 2^16
pub wrapped_product : (x y : ℤ) → wrapped (x *ℤ y) ≡ (wrapped x * wrapped y) % 65536
wrapped_product (pos m) (pos n) = product_mod m n
wrapped_product (pos m) (negsuc n) =
    sym (wrapped_negative (m * suc n) (m % 65536 * (65535 - n % 65536)) (m % 65536 * (n / 65536 + 1) + m / 65536 * suc n)
    (mixed m (suc n) (m % 65536) (m / 65536) (65535 - n % 65536) (n / 65536 + 1) (omega arith) (omega arith)))
wrapped_product (negsuc m) (pos n) =
    sym (ap (λ (z : ℕ). z % 65536) (let e : (65535 - m % 65536) * (n % 65536) ≡ n % 65536 * (65535 - m % 65536) = omega arith in
    e)
    ∙ wrapped_negative (n * suc m) (n % 65536 * (65535 - m % 65536)) (n % 65536 * (m / 65536 + 1) + n / 65536 * suc m)
    (mixed n (suc m) (n % 65536) (n / 65536) (65535 - m % 65536) (m / 65536 + 1) (omega arith) (omega arith))
    ∙ ap (λ (z : ℕ). wrapped (neg_ℤ (pos z))) (let e : n * suc m ≡ suc m * n = omega arith in e))
wrapped_product (negsuc m) (negsuc n) =
    negatives (65535 - m % 65536) (65535 - n % 65536) (suc m) (suc n) (m / 65536 + 1) (n / 65536 + 1) (omega arith) (omega arith)

-- numbers that two words say
pub data Says : ℕ → ℤ → Type 0 where
  Plainly : {w : ℕ} → w < 65536 → Says w (pos w)
  Below : (m : ℕ) → m < 32768 → Says (65535 - m) (negsuc m)

says_number : (t : IntType) (v : ℤ) → Says (wrapped v) (number t v)
unfolding number
says_number int.Int v = from (nat_lt (wrapped v) 32768) refl
  where
    from : (b : Bool) → nat_lt (wrapped v) 32768 ≡ b → Says (wrapped v)
        (if b then pos (wrapped v) else negsuc (65535 - wrapped v))
    from true e = Plainly (wrapped_small v)
    from false e =
        let small = wrapped_small v in
        let great : 32768 ≤ wrapped v = grind (arith, nat_tests) in
        let back : 65535 - (65535 - wrapped v) ≡ wrapped v = omega arith in
        subst (λ (z : ℕ). Says z (negsuc (65535 - wrapped v))) back (Below (65535 - wrapped v) (omega arith))
says_number int.UInt v = Plainly (wrapped_small v)
says_number int.Char v = Plainly (wrapped_small v)

pub product_word : (t : IntType) (i j k : ℤ) → IsWide t → binary op.Mul t (number t i) (number t j) ≡ Ok k
    → (wrapped i * wrapped j) % 65536 ≡ wrapped k
unfolding binary
product_word t i j k wide e =
    let a = wrapped_number t i in
    let b = wrapped_number t j in
    sym (wrapped_settled t (number t i *ℤ number t j) k wide e ∙ wrapped_product (number t i) (number t j)
    ∙ ap (λ (z : ℕ). (z * wrapped (number t j)) % 65536) a ∙ ap (λ (z : ℕ). (wrapped i * z) % 65536) b)

-- ---- divisors and counts that are allowed

abbrev good : ℤ → Result ℤ ℕ
good z = Ok z

abbrev wrong : ℕ → Result ℤ ℕ
wrong n = Err n

-- a rule is no value
no_rule : {A : Type 0} (n : ℕ) (k : ℤ) → wrong n ≡ good k → A
no_rule n k e = absurd (differ e)
  where
    differ : wrong n ≡ good k → ⊥
    differ h = cc

same_good : (a b : ℤ) → good a ≡ good b → a ≡ b
same_good a b e = cc

-- where no rule is given, none holds
allowed : (b : Bool) (n : ℕ) (x : Result ℤ ℕ) (k : ℤ) → (if b then wrong n else x) ≡ good k → (b ≡ false) × (x ≡ good k)
allowed true n x k e = no_rule n k e
allowed false n x k e = (refl, e)

needed : (b : Bool) (n : ℕ) (x : Result ℤ ℕ) (k : ℤ) → (if b then x else wrong n) ≡ good k → (b ≡ true) × (x ≡ good k)
needed true n x k e = (refl, e)
needed false n x k e = no_rule n k e

if_settled_is : (x : Result ℤ ℕ) (v k : ℤ) → if_settled x v ≡ good k → v ≡ k
if_settled_is (Ok z) v k e = same_good v k e
if_settled_is (Err n) v k e = no_rule n k e

says_zero : (w : ℕ) (x : ℤ) → Says w x → is_zero x ≡ false → w ≢ 0
says_zero w x (Plainly a) e = λ h. grind (arith, nat_tests)
says_zero w x (Below m a) e = λ h. grind (arith, nat_tests)

pub divisor : (t : IntType) (j : ℤ) → is_zero (number t j) ≡ false → wrapped j ≢ 0
divisor t j e = says_zero (wrapped j) (number t j) (says_number t j) e

-- a count is the word that says it
says_count : (w : ℕ) (x : ℤ) → Says w x → is_count x ≡ true → (w < 16) × (count_of x ≡ w)
says_count w x (Plainly a) e = (grind (arith, nat_tests), refl)
says_count w x (Below m a) e = absurd (differ e)
  where
    differ : false ≡ true → ⊥
    differ h = cc

pub count : (t : IntType) (j : ℤ) → is_count (number t j) ≡ true → (wrapped j < 16) × (count_of (number t j) ≡ wrapped j)
count t j e = says_count (wrapped j) (number t j) (says_number t j) e

-- ---- quotients and remainders

kept_quotient : (a b : ℕ) → a < 65536 → (a / b) % 65536 ≡ a / b
kept_quotient a b small = let few : a / b ≤ a = div-le_self a b in omega arith

kept_remainder : (a b : ℕ) → a < 65536 → (a % b) % 65536 ≡ a % b
kept_remainder a b small = let few : a % b ≤ a = mod-le a b in omega arith

pub quotient_word : (t : IntType) (i j k : ℤ) → IsWide t → binary op.Div t (number t i) (number t j) ≡ Ok k
    → (wrapped j ≢ 0) × (wrapped (int_div (number t i) (number t j)) ≡ wrapped k)
unfolding binary
quotient_word t i j k wide e =
    let h = allowed (is_zero (number t j)) 2 (settled t (int_div (number t i) (number t j))) k e in
    (divisor t j h.0, sym (wrapped_settled t (int_div (number t i) (number t j)) k wide h.1))

pub remainder_word : (t : IntType) (i j k : ℤ) → IsWide t → binary op.Rem t (number t i) (number t j) ≡ Ok k
    → (wrapped j ≢ 0) × (wrapped (int_rem (number t i) (number t j)) ≡ wrapped k)
unfolding binary
remainder_word t i j k wide e =
    let h = allowed (is_zero (number t j)) 2 (if_settled (settled t (int_div (number t i) (number t j)))
    (int_rem (number t i) (number t j))) k e in (
      divisor t j h.0,
      ap wrapped (if_settled_is (settled t (int_div (number t i) (number t j)))
          (int_rem (number t i) (number t j)) k h.1),
    )

-- ---- shifts

halved_is : (z : ℤ) (n : ℕ) → shifted_right z n ≡ halved z n
halved_is (pos m) n = refl
halved_is (negsuc m) n = refl

pub right_shift_word : (t own : IntType) (i j k : ℤ) → binary op.Shr t (number t i) (number own j) ≡ Ok k
    → (wrapped j < 16) × (wrapped (halved (number t i) (wrapped j)) ≡ wrapped k)
unfolding binary
right_shift_word t own i j k e =
    let h = needed (is_count (number own j)) 3 (good (shifted_right (number t i) (count_of (number own j)))) k e in
    let c = count own j h.0 in (
      c.0,
      ap wrapped (sym (halved_is (number t i) (wrapped j)) ∙ ap (λ (n : ℕ). shifted_right (number t i) n) (sym c.1) ∙
          same_good _ k h.1),
    )

pub left_shift_int : (own : IntType) (i j k : ℤ) → binary op.Shl int.Int (number int.Int i) (number own j) ≡ Ok k
    → (wrapped j < 16) × ((wrapped i * 2 ^ wrapped j) % 65536 ≡ wrapped k)
unfolding binary shifted_left
left_shift_int own i j k e =
    let h = needed (is_count (number own j)) 3 (shifted_left int.Int (number int.Int i) (count_of (number own j))) k e in
    let c = count own j h.0 in (
      c.0,
      from (wrapped i) (number int.Int i) (wrapped j) (says_number int.Int i)
          (ap (λ (n : ℕ). shifted_left int.Int (number int.Int i) n) (sym c.1) ∙ h.1),
    )
  where
    from : (w : ℕ) (x : ℤ) (n : ℕ) → Says w x → shifted_left int.Int x n ≡ good k → (w * 2 ^ n) % 65536 ≡ wrapped k
    from w x n (Plainly a) h =
        ap wrapped (same_good (pos (w * 2 ^ n)) k (needed (nat_le (w * 2 ^ n) 32767) 3 (good (pos (w * 2 ^ n))) k h).1)
    from w x n (Below m a) h = no_rule 3 k h

pub left_shift_unsigned : (own : IntType) (i j k : ℤ) → binary op.Shl int.UInt (number int.UInt i) (number own j) ≡ Ok k
    → (wrapped j < 16) × ((wrapped i * 2 ^ wrapped j) % 65536 ≡ wrapped k)
unfolding binary number shifted_left as_type
left_shift_unsigned own i j k e =
    let h = needed (is_count (number own j)) 3 (shifted_left int.UInt (number int.UInt i) (count_of (number own j))) k e in
    let c = count own j h.0 in (
      c.0,
      from (wrapped i * 2 ^ wrapped j)
          (same_good _ k (ap (λ (n : ℕ). shifted_left int.UInt (number int.UInt i) n) (sym c.1) ∙ h.1)),
    )
  where
    from : (n : ℕ) → pos (n % 65536) ≡ k → n % 65536 ≡ wrapped k
    from n h = let twice : (n % 65536) % 65536 ≡ n % 65536 = omega arith in sym twice ∙ ap wrapped h

-- ---- each operator

-- a routine computes an operator at a type
pub data IsHelped : BinaryOp → IntType → Helper → Type 0 where
  Times : {t : IntType} → IsHelped op.Mul t Mul16
  Signed_quotient : IsHelped op.Div int.Int Sdiv16
  Quotient : IsHelped op.Div int.UInt Udiv16
  Signed_remainder : IsHelped op.Rem int.Int Smod16
  Remainder : IsHelped op.Rem int.UInt Umod16
  Left : {t : IntType} → IsHelped op.Shl t Shl
  Signed_right : IsHelped op.Shr int.Int Sar
  Right : IsHelped op.Shr int.UInt Shr

pub helper_value : (o : BinaryOp) (t own : IntType) (which : Helper) (i j k : ℤ) → IsHelped o t which → IsWide t
    → binary o t (number t i) (number (right_type o t own) j) ≡ Ok k
    → HasValue which (wrapped i) (wrapped j) × (value which (wrapped i) (wrapped j) ≡ wrapped k)
unfolding number
helper_value o t own which i j k Times wide e = (tt, product_word t i j k wide e)
helper_value o t own which i j k Signed_quotient wide e = quotient_word int.Int i j k tt e
helper_value o t own which i j k Quotient wide e =
    let h = quotient_word int.UInt i j k tt e in
    (h.0, sym (kept_quotient (wrapped i) (wrapped j) (wrapped_small i)) ∙ h.1)
helper_value o t own which i j k Signed_remainder wide e = remainder_word int.Int i j k tt e
helper_value o t own which i j k Remainder wide e =
    let h = remainder_word int.UInt i j k tt e in
    (h.0, sym (kept_remainder (wrapped i) (wrapped j) (wrapped_small i)) ∙ h.1)
helper_value o int.Int own which i j k Left wide e = left_shift_int own i j k e
helper_value o int.UInt own which i j k Left wide e = left_shift_unsigned own i j k e
helper_value o int.Char own which i j k Left wide e = absurd wide
helper_value o t own which i j k Signed_right wide e = right_shift_word int.Int own i j k e
helper_value o t own which i j k Right wide e =
    let h = right_shift_word int.UInt own i j k e in
    (h.0, sym (kept_quotient (wrapped i) (2 ^ wrapped j) (wrapped_small i)) ∙ h.1)
