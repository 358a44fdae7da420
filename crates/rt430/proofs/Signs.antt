-- Signs and magnitudes of words, as the instructions find them.
use Rattle.std.proofs.Common.{◌≡◌, ◌≢◌, ℕ, zero, suc, ◌+◌, ◌-◌, ◌*◌, ◌/◌, ◌%◌, ◌<◌, ◌≤◌, refl, sym, ap, ◌∙◌, arith, Bool, true, false, not, bit_and, bit_xor, ⊎_elim}
use Rattle.std.proofs.lemmas.Bool.{cases_lt, lt-leb, le-leb}
use Rattle.std.proofs.lemmas.Bool.Decides.{nat_tests}
use Rattle.std.proofs.lemmas.Nat.{and_mask, xor_lt, xor_shr}
use Rattle.std.proofs.Math.Nat.{div-le_self, mod-le}
use Rattle.std.specs.Int.Bits.{xor_add_and}
use Rattle.std.specs.Prelude.{ℤ, pos, negsuc, neg_ℤ, nat_abs, int_div, int_rem, if◌then◌else◌}
use Rattle.isa430.specs.declared.instr.Cond.TheVariants.{Ge}
use Rattle.base16.specs.Integer.{signed, wrapped}
use Rattle.core430.specs.Arithmetic.{is_negative, difference_status}
use Rattle.core430.specs.Instructions.{is_taken}
use Rattle.run430.proofs.FlagLemmas.{signed_less, compare_greater_or_equal}
use Rattle.rt430.specs.Operators.{signed_quotient, signed_remainder}

-- every bit turned, and one more
abbrev pub turned : ℕ → ℕ
turned v = (bit_xor v 65535 + 1 + 0) % 65536

-- that, where the sign is negative
abbrev pub turned_if : ℕ → ℕ → ℕ
turned_if sign v = if is_negative false sign then turned v else v

abbrev pub magnitude : ℕ → ℕ
magnitude v = turned_if v v

-- ---- the jump after a comparison with 0

no_less : (v : ℕ) → v < 32768 → not (signed_less false v 0) ≡ true
no_less v l = grind (arith, nat_tests)

less : (v : ℕ) → 32768 ≤ v → v < 65536 → not (signed_less false v 0) ≡ false
less v k l = grind (arith, nat_tests)

pub jumps : (status v : ℕ) → v < 32768 → is_taken Ge (difference_status false status false v 0) ≡ true
jumps status v l = compare_greater_or_equal false status v 0 (omega arith) (omega arith) ∙ no_less v l

pub stays : (status v : ℕ) → 32768 ≤ v → v < 65536 → is_taken Ge (difference_status false status false v 0) ≡ false
stays status v k l = compare_greater_or_equal false status v 0 l (omega arith) ∙ less v k l

-- ---- what is turned

pub turned_if_not : (sign v : ℕ) → sign < 32768 → turned_if sign v ≡ v
turned_if_not sign v l = ap (λ (b : Bool). if b then turned v else v) (lt-leb 32768 sign l)

pub turned_if_so : (sign v : ℕ) → 32768 ≤ sign → turned_if sign v ≡ turned v
turned_if_so sign v l = ap (λ (b : Bool). if b then turned v else v) (le-leb 32768 sign l)

turned_is : (v : ℕ) → v < 65536 → turned v ≡ (65536 - v) % 65536
turned_is v l =
    let a : bit_xor v 65535 + bit_and v 65535 * 2 ≡ v + 65535 = xor_add_and v 65535 in
    let b : bit_and v 65535 ≡ v % 65536 = and_mask v 16 in
    omega arith

-- the magnitude of a negative word
turned_negative : (v : ℕ) → 32768 ≤ v → v < 65536 → turned v ≡ suc (65535 - v)
turned_negative v k l = turned_is v l ∙ (let e : (65536 - v) % 65536 ≡ suc (65535 - v) = omega arith in e)

pub magnitude_low : (v : ℕ) → v < 65536 → magnitude v ≤ 32768
magnitude_low v l = ⊎_elim (λ (k : v < 32768). let e = turned_if_not v v k in omega arith) (λ (k : 32768 ≤ v). let e = turned_if_so v v k in let f = turned_negative v k l in omega arith) (cases_lt v 32768)

pub magnitude_some : (v : ℕ) → v < 65536 → v ≢ 0 → 0 < magnitude v
magnitude_some v l n = ⊎_elim (λ (k : v < 32768). let e = turned_if_not v v k in omega arith) (λ (k : 32768 ≤ v). let e = turned_if_so v v k in let f = turned_negative v k l in omega arith) (cases_lt v 32768)

-- ---- words as signed numbers

signed_low : (v : ℕ) → v < 32768 → signed v ≡ pos v
signed_low v l = grind (arith, nat_tests)

signed_high : (v : ℕ) → 32768 ≤ v → signed v ≡ negsuc (65535 - v)
signed_high v l = grind (arith, nat_tests)

wrapped_low : (n : ℕ) → n < 65536 → wrapped (pos n) ≡ n
wrapped_low n l = omega arith

wrapped_negated : (n : ℕ) → n < 65536 → wrapped (neg_ℤ (pos n)) ≡ turned n
wrapped_negated zero l = refl
wrapped_negated (suc n) l = (let e : 65535 - n % 65536 ≡ (65536 - suc n) % 65536 = omega arith in e) ∙ sym (turned_is (suc n) l)

-- ---- the sign of a quotient

top_bits : (x y a b : ℕ) → x / 32768 ≡ a → y / 32768 ≡ b → bit_xor x y / 32768 ≡ bit_xor a b
top_bits x y a b e f = xor_shr x y 15 ∙ ap (λ (k : ℕ). bit_xor k (y / 32768)) e ∙ ap (λ (k : ℕ). bit_xor a k) f

pub xor_word : (x y : ℕ) → x < 65536 → y < 65536 → bit_xor x y < 65536
xor_word x y l k = xor_lt 16 x y l k

both_high : (x y : ℕ) → 32768 ≤ x → x < 65536 → 32768 ≤ y → y < 65536 → bit_xor x y < 32768
both_high x y l h k i =
    let e : bit_xor x y / 32768 ≡ 0 = top_bits x y 1 1 (omega arith) (omega arith) in
    omega arith

left_high : (x y : ℕ) → 32768 ≤ x → x < 65536 → y < 32768 → 32768 ≤ bit_xor x y
left_high x y l h k =
    let e : bit_xor x y / 32768 ≡ 1 = top_bits x y 1 0 (omega arith) (omega arith) in
    omega arith

right_high : (x y : ℕ) → x < 32768 → 32768 ≤ y → y < 65536 → 32768 ≤ bit_xor x y
right_high x y l k h =
    let e : bit_xor x y / 32768 ≡ 1 = top_bits x y 0 1 (omega arith) (omega arith) in
    omega arith

-- ---- the quotient

high_magnitude : (v : ℕ) → 32768 ≤ v → v < 65536 → magnitude v ≡ suc (65535 - v)
high_magnitude v k l = turned_if_so v v k ∙ turned_negative v k l

quotient_of : (a b c d : ℕ) → a ≡ c → b ≡ d → a / b ≡ c / d
quotient_of a b c d e f = ap (λ (k : ℕ). k / b) e ∙ ap (λ (k : ℕ). c / k) f

divided : (a b c d : ℤ) → a ≡ c → b ≡ d → wrapped (int_div a b) ≡ wrapped (int_div c d)
divided a b c d e f = ap (λ (k : ℤ). wrapped (int_div k b)) e ∙ ap (λ (k : ℤ). wrapped (int_div c k)) f

quotient_word : (a b : ℕ) → a < 65536 → a / b < 65536
quotient_word a b l = let e = div-le_self a b in omega arith

low_low : (x y : ℕ) → x < 32768 → y < 32768 → turned_if (bit_xor x y) (magnitude x / magnitude y) ≡ signed_quotient x y
low_low x y l k =
    let fits : x < 65536 = omega arith in
    turned_if_not (bit_xor x y) (magnitude x / magnitude y) (xor_lt 15 x y l k)
    ∙ quotient_of (magnitude x) (magnitude y) x y (turned_if_not x x l) (turned_if_not y y k)
    ∙ sym (wrapped_low (x / y) (quotient_word x y fits))
    ∙ sym (divided (signed x) (signed y) (pos x) (pos y) (signed_low x l) (signed_low y k))

low_high : (x y : ℕ) → x < 32768 → 32768 ≤ y → y < 65536 → turned_if (bit_xor x y) (magnitude x / magnitude y) ≡ signed_quotient x y
low_high x y l k h =
    let fits : x < 65536 = omega arith in
    turned_if_so (bit_xor x y) (magnitude x / magnitude y) (right_high x y l k h)
    ∙ ap turned (quotient_of (magnitude x) (magnitude y) x (suc (65535 - y)) (turned_if_not x x l) (high_magnitude y k h))
    ∙ sym (wrapped_negated (x / suc (65535 - y)) (quotient_word x (suc (65535 - y)) fits))
    ∙ sym (divided (signed x) (signed y) (pos x) (negsuc (65535 - y)) (signed_low x l) (signed_high y k))

high_low : (x y : ℕ) → 32768 ≤ x → x < 65536 → y < 32768 → turned_if (bit_xor x y) (magnitude x / magnitude y) ≡ signed_quotient x y
high_low x y l h k =
    let fits : suc (65535 - x) < 65536 = omega arith in
    turned_if_so (bit_xor x y) (magnitude x / magnitude y) (left_high x y l h k)
    ∙ ap turned (quotient_of (magnitude x) (magnitude y) (suc (65535 - x)) y (high_magnitude x l h) (turned_if_not y y k))
    ∙ sym (wrapped_negated (suc (65535 - x) / y) (quotient_word (suc (65535 - x)) y fits))
    ∙ sym (divided (signed x) (signed y) (negsuc (65535 - x)) (pos y) (signed_high x l) (signed_low y k))

high_high : (x y : ℕ) → 32768 ≤ x → x < 65536 → 32768 ≤ y → y < 65536 → turned_if (bit_xor x y) (magnitude x / magnitude y) ≡ signed_quotient x y
high_high x y l h k i =
    let fits : suc (65535 - x) < 65536 = omega arith in
    turned_if_not (bit_xor x y) (magnitude x / magnitude y) (both_high x y l h k i)
    ∙ quotient_of (magnitude x) (magnitude y) (suc (65535 - x)) (suc (65535 - y)) (high_magnitude x l h) (high_magnitude y k i)
    ∙ sym (wrapped_low (suc (65535 - x) / suc (65535 - y)) (quotient_word (suc (65535 - x)) (suc (65535 - y)) fits))
    ∙ sym (divided (signed x) (signed y) (negsuc (65535 - x)) (negsuc (65535 - y)) (signed_high x l) (signed_high y k))

pub quotient_is : (x y : ℕ) → x < 65536 → y < 65536 → turned_if (bit_xor x y) (magnitude x / magnitude y) ≡ signed_quotient x y
quotient_is x y h i = ⊎_elim left_low left_above (cases_lt x 32768)
  where
    left_low : x < 32768 → turned_if (bit_xor x y) (magnitude x / magnitude y) ≡ signed_quotient x y
    left_low l = ⊎_elim (λ (k : y < 32768). low_low x y l k) (λ (k : 32768 ≤ y). low_high x y l k i) (cases_lt y 32768)

    left_above : 32768 ≤ x → turned_if (bit_xor x y) (magnitude x / magnitude y) ≡ signed_quotient x y
    left_above l = ⊎_elim (λ (k : y < 32768). high_low x y l h k) (λ (k : 32768 ≤ y). high_high x y l h k i) (cases_lt y 32768)

-- ---- the remainder

magnitude_is : (v : ℕ) → v < 65536 → magnitude v ≡ nat_abs (signed v)
magnitude_is v h = ⊎_elim (λ (l : v < 32768). turned_if_not v v l ∙ sym (ap nat_abs (signed_low v l))) (λ (l : 32768 ≤ v). high_magnitude v l h ∙ sym (ap nat_abs (signed_high v l))) (cases_lt v 32768)

rest_of : (a b c d : ℕ) → a ≡ c → b ≡ d → a % b ≡ c % d
rest_of a b c d e f = ap (λ (k : ℕ). k % b) e ∙ ap (λ (k : ℕ). c % k) f

rest_word : (a b : ℕ) → a < 65536 → a % b < 65536
rest_word a b l = let e = mod-le a b in omega arith

rest_low : (x y : ℕ) → x < 32768 → y < 65536 → turned_if x (magnitude x % magnitude y) ≡ signed_remainder x y
rest_low x y l i =
    let fits : x < 65536 = omega arith in
    turned_if_not x (magnitude x % magnitude y) l
    ∙ rest_of (magnitude x) (magnitude y) x (nat_abs (signed y)) (turned_if_not x x l) (magnitude_is y i)
    ∙ sym (wrapped_low (x % nat_abs (signed y)) (rest_word x (nat_abs (signed y)) fits))
    ∙ sym (ap (λ (k : ℤ). wrapped (int_rem k (signed y))) (signed_low x l))

rest_high : (x y : ℕ) → 32768 ≤ x → x < 65536 → y < 65536 → turned_if x (magnitude x % magnitude y) ≡ signed_remainder x y
rest_high x y l h i =
    let fits : suc (65535 - x) < 65536 = omega arith in
    turned_if_so x (magnitude x % magnitude y) l
    ∙ ap turned (rest_of (magnitude x) (magnitude y) (suc (65535 - x)) (nat_abs (signed y)) (high_magnitude x l h) (magnitude_is y i))
    ∙ sym (wrapped_negated (suc (65535 - x) % nat_abs (signed y)) (rest_word (suc (65535 - x)) (nat_abs (signed y)) fits))
    ∙ sym (ap (λ (k : ℤ). wrapped (int_rem k (signed y))) (signed_high x l))

pub remainder_is : (x y : ℕ) → x < 65536 → y < 65536 → turned_if x (magnitude x % magnitude y) ≡ signed_remainder x y
remainder_is x y h i = ⊎_elim (λ (l : x < 32768). rest_low x y l i) (λ (l : 32768 ≤ x). rest_high x y l h i) (cases_lt x 32768)
