-- Unsigned division, bit by bit. Quotient and remainder are found by the same instructions.
use Rattle.std.proofs.Common.{◌≡◌, ◌≢◌, ℕ, zero, suc, ◌+◌, ◌-◌, ◌*◌, ◌/◌, ◌%◌, ◌<◌, ◌≤◌, refl, sym, ap, ◌∙◌, subst, arith, Bool, true, false, not, List, ◌∷◌, ◌⊎◌, inl, inr, ⊎_elim, mul-le-mul_right, add-zero}
use Rattle.std.proofs.lemmas.Bool.{cases_lt, lt-leb, le-leb}
use Rattle.std.specs.Prelude.{◌^◌, pos, negsuc, if◌then◌else◌, nat_le}
use Rattle.isa430.specs.declared.instr.TwoOp.TheVariants.{Mov, Add, Addc, Sub, Cmp}
use Rattle.isa430.specs.declared.instr.Gen.TheVariants.{Zero, One as ConstantOne}
use Rattle.isa430.specs.declared.instr.Src.TheVariants.{Reg, Immediate, Constant}
use Rattle.isa430.specs.declared.instr.Dst.TheVariants.{Reg as ToReg}
use Rattle.isa430.specs.declared.instr.Cond.TheVariants.{C, Nc, Nz}
use Rattle.isa430.specs.declared.instr.Instr.{Instr}
use Rattle.isa430.specs.declared.instr.Instr.TheVariants.{Two, Jump}
use Rattle.core430.specs.Registers.{set_reg}
use Rattle.core430.specs.Status.{bit, carry_of}
use Rattle.core430.specs.Arithmetic.{sum_status, difference_status}
use Rattle.run430.specs.Code.{Agrees, Placed, Owns}
use Rattle.run430.specs.Routine.{IsKept}
use Rattle.run430.proofs.Words.{small, Agrees-self}
use Rattle.run430.proofs.Placing.{moved}
use Rattle.run430.proofs.Steady.{steady_sets, steady_jump}
use Rattle.run430.proofs.Operands.{in_register, to_register, given, constant}
use Rattle.run430.proofs.FlagLemmas.{sum_carry, compare_carry}
use Rattle.std.proofs.lemmas.Nat.{div-mul-add, mod-mul-add}
use Rattle.rt430.specs.Routines.{always_kept}
use Rattle.rt430.proofs.Stretch.{at_most, new_flags, counted_out, counts_on, one_less, Went, then_went}

abbrev last_part : List Instr → List Instr
last_part tail =
    Two Sub false (Constant ConstantOne) (ToReg 15)
    ∷ Jump Nz (negsuc 8)
    ∷ tail

abbrev sub_part : List Instr → List Instr
sub_part tail =
    Two Sub false (Reg 13) (ToReg 14)
    ∷ Two Add false (Constant ConstantOne) (ToReg 12)
    ∷ last_part tail

abbrev test_part : List Instr → List Instr
test_part tail =
    Jump C (pos 2)
    ∷ Two Cmp false (Reg 13) (ToReg 14)
    ∷ Jump Nc (pos 2)
    ∷ sub_part tail

abbrev loop_part : List Instr → List Instr
loop_part tail =
    Two Add false (Reg 12) (ToReg 12)
    ∷ Two Addc false (Reg 14) (ToReg 14)
    ∷ test_part tail

-- R12 divided by R13, to R12, with the remainder in R14, and then what follows
abbrev pub divide_then : List Instr → List Instr
divide_then tail =
    Two Mov false (Constant Zero) (ToReg 14)
    ∷ Two Mov false (Immediate 16) (ToReg 15)
    ∷ loop_part tail

-- the registers at a place in the loop. Beside R4 to R7, R11 is kept
record At (pc sp x b rem count sign : ℕ) (q r : ℕ → ℕ) : Type 0 where
  place : r 0 ≡ pc
  stack : r 1 ≡ sp
  number : r 12 ≡ x
  divisor : r 13 ≡ b
  rest : r 14 ≡ rem
  left : r 15 ≡ count
  sign_is : r 11 ≡ sign
  kept : IsKept always_kept q r

-- ---- what the turns compute

bit_at : (b : Bool) (t : ℕ) → ((b ≡ true) × (t ≡ 1)) ⊎ ((b ≡ false) × (t ≡ 0)) → bit b ≡ t
bit_at b t h = ⊎_elim (λ e. ap bit e.0 ∙ sym e.1) (λ e. ap bit e.0 ∙ sym e.1) h

-- the bit that a doubling sends out
top_bit : (x t low : ℕ) → t < 2 → low < 32768 → x ≡ t * 32768 + low → bit (nat_le 65536 (x + x + 0)) ≡ t
top_bit x t low a b e = bit_at _ t (⊎_elim (λ (l : x < 32768). inr (lt-leb 65536 (x + x + 0) (omega arith), omega arith)) (λ (l : 32768 ≤ x). inl (le-leb 65536 (x + x + 0) (omega arith), omega arith)) (cases_lt x 32768))

double : (k : ℕ) → 2 ^ suc (suc k) ≡ 2 * 2 ^ suc k
double k = omega arith

moved_two : (p k : ℕ) → p * 2 ^ suc (suc k) ≡ 65536 → (2 * p) * 2 ^ suc k ≡ 65536
moved_two p k e = let e2 : p * (2 * 2 ^ suc k) ≡ 65536 = rw (double k) at e in omega arith

last_is : (y2 p q2 b rem2 all y : ℕ) → y2 < 1 → (q2 * b + rem2) * 1 + y2 ≡ all * (2 * 1) + y → (y2 * (2 * p) + q2) * b + rem2 ≡ all * 2 ^ 1 + y
last_is y2 p q2 b rem2 all y l e = let z : y2 ≡ 0 = omega arith in let e2 : (q2 * b + rem2) * 1 + 0 ≡ all * (2 * 1) + y = rw z at e in rw z (omega (arith, e2))

positive : (p q : ℕ) → p * (2 * q) ≡ 65536 → p ≢ 0
positive p q e z = let k : 0 * (2 * q) ≡ 65536 = rw z at e in omega arith

row_below : (y z p : ℕ) → y < z → y * p + p ≤ z * p
row_below y z p h = let l : (y + 1) * p ≤ z * p = mul-le-mul_right p h' in omega arith
  where
    h' : y + 1 ≤ z
    h' = omega arith

low_below : (q p z quotient : ℕ) → p * (2 * q) ≡ 65536 → z < q → quotient < p → z * p + quotient < 32768
low_below q p z quotient e h k = let l = row_below z q p h in omega arith

top_split : (q p y t z quotient : ℕ) → p * (2 * q) ≡ 65536 → y ≡ t * q + z → y * p + quotient ≡ t * 32768 + (z * p + quotient)
top_split q p y t z quotient e h =
    let half : q * p ≡ 32768 = omega arith in
    let times : t * (q * p) ≡ t * 32768 = ap (λ (k : ℕ). t * k) half in
    let y' : y * p ≡ (t * q + z) * p = ap (λ (k : ℕ). k * p) h in
    omega arith

kept_sum : (q y t z quotient b rem one rest : ℕ) → y ≡ t * q + z → 2 * rem + t ≡ one * b + rest → ((2 * quotient + one) * b + rest) * q + z ≡ (quotient * b + rem) * (2 * q) + y
kept_sum q y t z quotient b rem one rest e h = let s : (2 * rem + t) * q ≡ (one * b + rest) * q = ap (λ (k : ℕ). k * q) h in omega arith

number_is : (z p quotient low one : ℕ) → low ≡ z * p + quotient → 2 * low + one ≡ z * (2 * p) + (2 * quotient + one)
number_is z p quotient low one e = omega arith

sums : (u v w t : ℕ) → u ≡ v → w ≡ t → u + u + w ≡ 2 * v + t
sums u v w t e f = omega arith

doubled : (u t low : ℕ) → t < 2 → low < 32768 → u ≡ t * 32768 + low → (u + u + 0) % 65536 ≡ 2 * low
doubled u t low h l e = ⊎_elim (λ (z : t < 1). omega arith) (λ (z : 1 ≤ t). omega arith) (cases_lt t 1)

next_number : (u x : ℕ) → u ≡ x → x + 1 < 65536 → (u + 1 + 0) % 65536 ≡ x + 1
next_number u x e h = omega arith

less : (u w rem b : ℕ) → u ≡ rem % 65536 → w ≡ b → b ≤ rem → rem < b + 65536 → b < 65536 → (u + 65536 - (w + 0)) % 65536 ≡ rem - b
less u w rem b e f l h k = omega arith

module _ (denied : ℕ → Bool) (R W : ℕ → Type 0) (lo hi : ℕ) (own : Owns R lo hi) (base sp sign : ℕ) (q m : ℕ → ℕ) (tail : List Instr) (placed : Placed m lo hi base (divide_then tail)) where
  g : Agrees m lo hi m
  g = Agrees-self m lo hi

  -- number and rest are doubled, and the top bit t goes from one to the other
  record Shifted (x b rem count : ℕ) (t : ℕ → ℕ) : Type 0 where
    at : At (base + 10) sp x b (rem % 65536) count sign q t
    carry : carry_of (t 2) ≡ nat_le 65536 rem

  shifts : (x t low b rem count : ℕ) (r : ℕ → ℕ) → t < 2 → low < 32768 → x ≡ t * 32768 + low → At (base + 6) sp x b rem count sign q r → Went denied R W sp m 2 r (Shifted (2 * low) b (2 * rem + t) count)
  shifts x t low b rem count r t2 l e a =
      let pc = a.place in let fx = a.number in let fr = a.rest in
      let e0 : base + 2 + 4 ≡ r 0 = omega arith in
      let p = moved m lo hi _ _ (loop_part tail) e0 placed.1.1 in
      let x2 : r 12 ≡ t * 32768 + low = fx ∙ e in
      let c1 : bit (carry_of (sum_status false (r 2) false (r 12) (r 12))) ≡ t = ap bit (sum_carry false (r 2) false (r 12) (r 12)) ∙ top_bit (r 12) t low t2 l x2 in
      let sum : r 14 + r 14 + bit (carry_of (sum_status false (r 2) false (r 12) (r 12))) ≡ 2 * rem + t = sums (r 14) rem _ t fr c1 in
      let place : r 0 + 2 + 2 ≡ base + 10 = omega arith in
      record {
        steps = 2;
        within = omega arith;
        end = _;
        runs =
            steady_sets denied R W m lo hi own sp 1 _ _ _ Add false (Reg 12) (ToReg 12) _ _ _ g p.0 in_register to_register refl tt tt refl (at_most a.stack)
            (steady_sets denied R W m lo hi own sp 0 _ _ _ Addc false (Reg 14) (ToReg 14) _ _ _ g p.1.0 in_register to_register refl tt tt refl (at_most a.stack) refl);
        so = record {
          at = record { place = place; stack = a.stack; number = doubled (r 12) t low t2 l x2; divisor = a.divisor; rest = ap (λ (k : ℕ). k % 65536) sum; left = a.left; sign_is = a.sign_is; kept = (new_flags _ _ _ _ _ _ (new_flags _ _ _ _ _ _ a.kept.0), a.kept.1) };
          carry = sum_carry false _ _ (r 14) (r 14) ∙ ap (λ (k : ℕ). nat_le 65536 k) sum;
        };
      }

  -- the divisor is taken away, and the quotient has one more
  subtracts : (x b rem count : ℕ) (r : ℕ → ℕ) → x + 1 < 65536 → b ≤ rem → rem < b + 65536 → b < 65536 → At (base + 16) sp x b (rem % 65536) count sign q r → Went denied R W sp m 2 r (At (base + 20) sp (x + 1) b (rem - b) count sign q)
  subtracts x b rem count r fits l h b16 a =
      let pc = a.place in let fx = a.number in let fr = a.rest in let fb = a.divisor in
      let e0 : base + 2 + 4 + 2 + 2 + 2 + 2 + 2 ≡ r 0 = omega arith in
      let p = moved m lo hi _ _ (sub_part tail) e0 placed.1.1.1.1.1.1.1 in
      let place : r 0 + 2 + 2 ≡ base + 20 = omega arith in
      record {
        steps = 2;
        within = omega arith;
        end = _;
        runs =
            steady_sets denied R W m lo hi own sp 1 _ _ _ Sub false (Reg 13) (ToReg 14) _ _ _ g p.0 in_register to_register refl tt tt refl (at_most a.stack)
            (steady_sets denied R W m lo hi own sp 0 _ _ _ Add false (Constant ConstantOne) (ToReg 12) _ _ _ g p.1.0 constant to_register refl tt tt refl (at_most a.stack) refl);
        so = record { place = place; stack = a.stack; number = next_number (r 12) x fx fits; divisor = fb; rest = less (r 14) (r 13) rem b fr fb l h b16; left = a.left; sign_is = a.sign_is; kept = (new_flags _ _ _ _ _ _ (new_flags _ _ _ _ _ _ a.kept.0), a.kept.1) };
      }

  -- whether the divisor goes in
  tests_big : (x b rem count : ℕ) (r : ℕ → ℕ) → 65536 ≤ rem → At (base + 10) sp x b (rem % 65536) count sign q r → carry_of (r 2) ≡ nat_le 65536 rem → Went denied R W sp m 1 r (At (base + 16) sp x b (rem % 65536) count sign q)
  tests_big x b rem count r l a k =
      let pc = a.place in
      let e0 : base + 2 + 4 + 2 + 2 ≡ r 0 = omega arith in
      let p = moved m lo hi _ _ (test_part tail) e0 placed.1.1.1.1 in
      let high = p.1.1.1.0.high in let top = p.1.1.1.0.top in
      let taken : carry_of (r 2) ≡ true = k ∙ le-leb 65536 rem l in
      let to : (r 0 + 2 + 4) % 65536 ≡ base + 16 = omega arith in
      let below : base + 16 < 65280 = omega arith in
      record {
        steps = 1;
        within = omega arith;
        end = _;
        runs = steady_jump denied R W m lo hi own sp 0 _ _ _ C (pos 2) true (base + 16) g p.0 taken to below (at_most a.stack) refl;
        so = record { place = refl; stack = a.stack; number = a.number; divisor = a.divisor; rest = a.rest; left = a.left; sign_is = a.sign_is; kept = a.kept };
      }

  tests : (x b rem count : ℕ) (r : ℕ → ℕ) (fits : Bool) → rem < 65536 → nat_le b rem ≡ fits → At (base + 10) sp x b (rem % 65536) count sign q r → carry_of (r 2) ≡ nat_le 65536 rem → Went denied R W sp m 3 r (At (if not fits then base + 20 else base + 16) sp x b rem count sign q)
  tests x b rem count r fits l e a k =
      let pc = a.place in
      let e0 : base + 2 + 4 + 2 + 2 ≡ r 0 = omega arith in
      let p = moved m lo hi _ _ (test_part tail) e0 placed.1.1.1.1 in
      let high = p.1.1.1.1.0.high in let top = p.1.1.1.1.0.top in
      let same = small l in
      let untaken : carry_of (r 2) ≡ false = k ∙ lt-leb 65536 rem l in
      let compared : nat_le (r 13) (r 14) ≡ nat_le b rem = rw (a.divisor, a.rest ∙ same) refl in
      let sign' : not (carry_of (difference_status false (r 2) false (r 14) (r 13))) ≡ not fits = ap not (compare_carry false (r 2) (r 14) (r 13) ∙ compared ∙ e) in
      let to1 : (r 0 + 2 + 4) % 65536 ≡ r 0 + 6 = omega arith in
      let to2 : (r 0 + 2 + 2 + 2 + 4) % 65536 ≡ base + 20 = omega arith in
      let past : r 0 + 2 + 2 + 2 ≡ base + 16 = omega arith in
      let below1 : r 0 + 6 < 65280 = omega arith in
      let below2 : base + 20 < 65280 = omega arith in
      record {
        steps = 3;
        within = omega arith;
        end = _;
        runs =
            steady_jump denied R W m lo hi own sp 2 _ _ _ C (pos 2) false (r 0 + 6) g p.0 untaken to1 below1 (at_most a.stack)
            (steady_sets denied R W m lo hi own sp 1 _ _ _ Cmp false (Reg 13) (ToReg 14) _ _ _ g p.1.0 in_register to_register refl tt tt refl (at_most a.stack)
            (steady_jump denied R W m lo hi own sp 0 _ _ _ Nc (pos 2) (not fits) (base + 20) g p.1.1.0 sign' to2 below2 (at_most a.stack) refl));
        so = record { place = ap (λ (z : ℕ). if not fits then base + 20 else z) past; stack = a.stack; number = a.number; divisor = a.divisor; rest = a.rest ∙ same; left = a.left; sign_is = a.sign_is; kept = (new_flags _ _ _ _ _ _ a.kept.0, a.kept.1) };
      }

  -- the digit of one turn: from the doubled rest, to the quotient's next bit and the new rest
  record Digit (x b rem count : ℕ) (t : ℕ → ℕ) : Type 0 where
    one : ℕ
    is_bit : one < 2
    rest : ℕ
    below : rest < b
    split : rem ≡ one * b + rest
    at : At (base + 20) sp (x + one) b rest count sign q t

  digit : (x b rem count : ℕ) (r : ℕ → ℕ) → x + 1 < 65536 → b < 65536 → rem < 2 * b → Shifted x b rem count r → Went denied R W sp m 5 r (Digit x b rem count)
  digit x b rem count r fits b16 l s = ⊎_elim small_rem big_rem (cases_lt rem 65536)
    where
      done : (t : ℕ → ℕ) → b ≤ rem → At (base + 20) sp (x + 1) b (rem - b) count sign q t → Digit x b rem count t
      done t h a = record { one = 1; is_bit = omega arith; rest = rem - b; below = omega arith; split = omega arith; at = a }

      big_rem : 65536 ≤ rem → Went denied R W sp m 5 r (Digit x b rem count)
      big_rem h =
          let z = then_went denied R W sp m 1 2 r _ _ (tests_big x b rem count r h s.at s.carry) (λ t a. subtracts x b rem count t fits (omega arith) (omega arith) b16 a) in
          record { steps = z.steps; within = omega (arith, z.within); end = z.end; runs = z.runs; so = done z.end (omega arith) z.so }

      small_rem : rem < 65536 → Went denied R W sp m 5 r (Digit x b rem count)
      small_rem h = ⊎_elim less_rem more (cases_lt rem b)
        where
          less_rem : rem < b → Went denied R W sp m 5 r (Digit x b rem count)
          less_rem k =
              let z = tests x b rem count r false h (lt-leb b rem k) s.at s.carry in
              record { steps = z.steps; within = omega (arith, z.within); end = z.end; runs = z.runs; so = record { one = 0; is_bit = omega arith; rest = rem; below = k; split = omega arith; at = record { place = z.so.place; stack = z.so.stack; number = z.so.number ∙ sym (add-zero x); divisor = z.so.divisor; rest = z.so.rest; left = z.so.left; sign_is = z.so.sign_is; kept = z.so.kept } } }

          more : b ≤ rem → Went denied R W sp m 5 r (Digit x b rem count)
          more k =
              let z = then_went denied R W sp m 3 2 r _ _ (tests x b rem count r true h (le-leb b rem k) s.at s.carry) (λ t a. subtracts x b rem count t fits k (omega arith) b16 (record { place = a.place; stack = a.stack; number = a.number; divisor = a.divisor; rest = a.rest ∙ sym (small h); left = a.left; sign_is = a.sign_is; kept = a.kept })) in
              record { steps = z.steps; within = z.within; end = z.end; runs = z.runs; so = done z.end k z.so }

  -- on to the next turn
  again : (x b rem count : ℕ) (r : ℕ → ℕ) → 0 < count → count < 65535 → At (base + 20) sp x b rem (suc count) sign q r → Went denied R W sp m 2 r (At (base + 6) sp x b rem count sign q)
  again x b rem count r l k a =
      let pc = a.place in let left = a.left in
      let e0 : base + 2 + 4 + 2 + 2 + 2 + 2 + 2 + 2 + 2 ≡ r 0 = omega arith in
      let p = moved m lo hi _ _ (last_part tail) e0 placed.1.1.1.1.1.1.1.1.1 in
      let high = p.1.0.high in let top = p.1.0.top in
      let to : (r 0 + 2 + 2 + 65536 - 18) % 65536 ≡ base + 6 = omega arith in
      let below : base + 6 < 65280 = omega arith in
      record {
        steps = 2;
        within = omega arith;
        end = _;
        runs =
            steady_sets denied R W m lo hi own sp 1 _ _ _ Sub false (Constant ConstantOne) (ToReg 15) _ _ _ g p.0 constant to_register refl tt tt refl (at_most a.stack)
            (steady_jump denied R W m lo hi own sp 0 _ _ _ Nz (negsuc 8) true (base + 6) g p.1.0 (counts_on _ (r 15) count left l k) to below (at_most a.stack) refl);
        so = record { place = refl; stack = a.stack; number = a.number; divisor = a.divisor; rest = a.rest; left = one_less (r 15) count left k; sign_is = a.sign_is; kept = (new_flags _ _ _ _ _ _ a.kept.0, a.kept.1) };
      }

  -- past the loop
  pub record After (quotient rem b : ℕ) (t : ℕ → ℕ) : Type 0 where
    pub place : t 0 ≡ base + 24
    pub stack : t 1 ≡ sp
    pub quotient_is : t 12 ≡ quotient
    pub divisor_is : t 13 ≡ b
    pub remainder_is : t 14 ≡ rem
    pub sign_is : t 11 ≡ sign
    pub kept : IsKept always_kept q t

  ends : (x b rem : ℕ) (r : ℕ → ℕ) → At (base + 20) sp x b rem 1 sign q r → Went denied R W sp m 2 r (After x rem b)
  ends x b rem r a =
      let pc = a.place in let left = a.left in
      let e0 : base + 2 + 4 + 2 + 2 + 2 + 2 + 2 + 2 + 2 ≡ r 0 = omega arith in
      let p = moved m lo hi _ _ (last_part tail) e0 placed.1.1.1.1.1.1.1.1.1 in
      let high = p.1.0.high in let top = p.1.0.top in
      let to : (r 0 + 2 + 2 + 65536 - 18) % 65536 ≡ base + 6 = omega arith in
      let below : base + 6 < 65280 = omega arith in
      let place : r 0 + 2 + 2 ≡ base + 24 = omega arith in
      record {
        steps = 2;
        within = omega arith;
        end = _;
        runs =
            steady_sets denied R W m lo hi own sp 1 _ _ _ Sub false (Constant ConstantOne) (ToReg 15) _ _ _ g p.0 constant to_register refl tt tt refl (at_most a.stack)
            (steady_jump denied R W m lo hi own sp 0 _ _ _ Nz (negsuc 8) false (base + 6) g p.1.0 (counted_out _ (r 15) left) to below (at_most a.stack) refl);
        so = record { place = place; stack = a.stack; quotient_is = a.number; divisor_is = a.divisor; remainder_is = a.rest; sign_is = a.sign_is; kept = (new_flags _ _ _ _ _ _ a.kept.0, a.kept.1) };
      }

  -- a turn: all is the number that was divided so far, and y the rest of it
  record Turned (half p y b quotient rem count : ℕ) (t : ℕ → ℕ) : Type 0 where
    y2 : ℕ
    y_below : y2 < half
    quotient2 : ℕ
    quotient_below : quotient2 < 2 * p
    rem2 : ℕ
    rem_below : rem2 < b
    same : (quotient2 * b + rem2) * half + y2 ≡ (quotient * b + rem) * (2 * half) + y
    at : At (base + 20) sp (y2 * (2 * p) + quotient2) b rem2 count sign q t

  turn : (half p y b quotient rem count : ℕ) (r : ℕ → ℕ) → p * (2 * half) ≡ 65536 → y < 2 * half → quotient < p → rem < b → b < 65536 → At (base + 6) sp (y * p + quotient) b rem count sign q r → Went denied R W sp m 7 r (Turned half p y b quotient rem count)
  turn half p y b quotient rem count r e ly lq lr b16 a = ⊎_elim (λ (l : y < half). with_bit 0 y (omega arith) (omega arith) l) (λ (l : half ≤ y). with_bit 1 (y - half) (omega arith) (omega arith) (omega arith)) (cases_lt y half)
    where
      with_bit : (t z : ℕ) → t < 2 → y ≡ t * half + z → z < half → Went denied R W sp m 7 r (Turned half p y b quotient rem count)
      with_bit t z t2 ey lz =
          let low = z * p + quotient in
          let l : z * p + quotient < 32768 = low_below half p z quotient e lz lq in
          let x : y * p + quotient ≡ t * 32768 + (z * p + quotient) = top_split half p y t z quotient e ey in
          let d = then_went denied R W sp m 2 5 r _ _ (shifts (y * p + quotient) t low b rem count r t2 l x a) (λ u s. digit (2 * low) b (2 * rem + t) count u (omega arith) b16 (omega arith) s) in
          turned t z low d t2 ey lz refl
        where
          turned : (t z low : ℕ) (d : Went denied R W sp m 7 r (Digit (2 * low) b (2 * rem + t) count)) → t < 2 → y ≡ t * half + z → z < half → low ≡ z * p + quotient → Went denied R W sp m 7 r (Turned half p y b quotient rem count)
          turned t z low d t2 ey lz el =
              let o = d.so in
              let one2 = o.is_bit in
              let at = o.at in
              record {
                steps = d.steps;
                within = d.within;
                end = d.end;
                runs = d.runs;
                so = record {
                  y2 = z;
                  y_below = lz;
                  quotient2 = 2 * quotient + o.one;
                  quotient_below = omega arith;
                  rem2 = o.rest;
                  rem_below = o.below;
                  same = kept_sum half y t z quotient b rem o.one o.rest ey o.split;
                  at = record { place = at.place; stack = at.stack; number = at.number ∙ number_is z p quotient low o.one el; divisor = at.divisor; rest = at.rest; left = at.left; sign_is = at.sign_is; kept = at.kept };
                };
              }

  abbrev Divided : ℕ → ℕ → (ℕ → ℕ) → Type 0
  Divided number b t = (quotient : ℕ) × (rem : ℕ) × (rem < b) × (quotient * b + rem ≡ number) × After quotient rem b t

  -- k + 1 turns
  abbrev Loops : ℕ → Type 0
  Loops k = (p y b quotient rem : ℕ) (r : ℕ → ℕ) → p * 2 ^ suc k ≡ 65536 → y < 2 ^ suc k → quotient < p → rem < b → b < 65536 → At (base + 6) sp (y * p + quotient) b rem (suc k) sign q r → Went denied R W sp m (9 * suc k) r (Divided ((quotient * b + rem) * 2 ^ suc k + y) b)

  last_turn : Loops 0
  last_turn p y b quotient rem r e ly lq lr b16 a =
      then_went denied R W sp m 7 2 r _ _ (turn 1 p y b quotient rem 1 r (omega arith) (omega arith) lq lr b16 a) (λ t u. last t u)
    where
      last : (t : ℕ → ℕ) → Turned 1 p y b quotient rem 1 t → Went denied R W sp m 2 t (Divided ((quotient * b + rem) * 2 ^ 1 + y) b)
      last t u =
          let z = ends (u.y2 * (2 * p) + u.quotient2) b u.rem2 t u.at in
          record { steps = z.steps; within = z.within; end = z.end; runs = z.runs; so = (u.y2 * (2 * p) + u.quotient2, u.rem2, u.rem_below, last_is u.y2 p u.quotient2 b u.rem2 (quotient * b + rem) y u.y_below u.same, z.so) }

  one_turn : (k : ℕ) → k < 16 → Loops k → Loops (suc k)
  one_turn k h rest p y b quotient rem r e ly lq lr b16 a =
      let e2 : p * (2 * 2 ^ suc k) ≡ 65536 = rw (double k) at e in
      let l2 : y < 2 * 2 ^ suc k = rw (double k) at ly in
      let z = then_went denied R W sp m 7 (2 + 9 * suc k) r _ _ (turn (2 ^ suc k) p y b quotient rem (suc (suc k)) r e2 l2 lq lr b16 a) (λ t u. next t u) in
      record { steps = z.steps; within = omega (arith, z.within); end = z.end; runs = z.runs; so = z.so }
    where
      next : (t : ℕ → ℕ) → Turned (2 ^ suc k) p y b quotient rem (suc (suc k)) t → Went denied R W sp m (2 + 9 * suc k) t (Divided ((quotient * b + rem) * 2 ^ suc (suc k) + y) b)
      next t u =
          let small1 : suc k < 65535 = omega arith in
          let e3 : (2 * p) * 2 ^ suc k ≡ 65536 = moved_two p k e in
          let kept : (u.quotient2 * b + u.rem2) * 2 ^ suc k + u.y2 ≡ (quotient * b + rem) * 2 ^ suc (suc k) + y = u.same ∙ ap (λ (x : ℕ). (quotient * b + rem) * x + y) (sym (double k)) in
          then_went denied R W sp m 2 (9 * suc k) t _ _ (again (u.y2 * (2 * p) + u.quotient2) b u.rem2 (suc k) t (omega arith) small1 u.at) (λ v a2.
          subst (λ (x : ℕ). Went denied R W sp m (9 * suc k) v (Divided x b)) kept (rest (2 * p) u.y2 b u.quotient2 u.rem2 v e3 u.y_below u.quotient_below u.rem_below b16 a2))

  loop : (k : ℕ) → k < 16 → Loops k
  loop zero h = last_turn
  loop (suc k) h = one_turn k (omega arith) (loop k (omega arith))

  zero_first : (n x y : ℕ) → n ≡ (0 * y + 0) * 2 ^ 16 + x → n ≡ x
  zero_first n x y e = omega arith

  quotient_of : (k r x y : ℕ) → r < y → k * y + r ≡ x → k ≡ x / y
  quotient_of k r x y l e = sym (div-mul-add k y r l) ∙ ap (λ (i : ℕ). i / y) e

  remainder_of : (k r x y : ℕ) → r < y → k * y + r ≡ x → r ≡ x % y
  remainder_of k r x y l e = sym (mod-mul-add k y r l) ∙ ap (λ (i : ℕ). i % y) e

  -- the whole: R12 is divided by R13
  pub divides : (x y : ℕ) (r : ℕ → ℕ) → 0 < y → y < 65536 → x < 65536 → r 0 ≡ base → r 1 ≡ sp → r 12 ≡ x → r 13 ≡ y → r 11 ≡ sign → IsKept always_kept q r → Went denied R W sp m 146 r (After (x / y) (x % y) y)
  divides x y r pos1 fits word pc stack first second s kept =
      let p = moved m lo hi _ _ (divide_then tail) (sym pc) placed in
      let place : r 0 + 2 + 4 ≡ base + 6 = omega arith in
      let number : r 12 ≡ x * 1 + 0 = omega (arith, first) in
      let r2 : ℕ → ℕ = set_reg (set_reg (set_reg (set_reg r 0 (r 0 + 2)) 14 0) 0 (r 0 + 2 + 4)) 15 16 in
      let a : At (base + 6) sp (x * 1 + 0) y 0 16 sign q r2 = record { place = place; stack = stack; number = number; divisor = second; rest = refl; left = refl; sign_is = s; kept = kept } in
      let w = loop 15 (omega arith) 1 x y 0 0 r2 refl (omega (arith, word)) (omega arith) pos1 fits a in
      let same : w.so.0 * y + w.so.1 ≡ x = zero_first (w.so.0 * y + w.so.1) x y w.so.3 in
      let f = w.so.4 in
      record {
        steps = suc (suc w.steps);
        within = omega (arith, w.within);
        end = w.end;
        runs =
            steady_sets denied R W m lo hi own sp (suc w.steps) _ _ _ Mov false (Constant Zero) (ToReg 14) _ _ _ g p.0 constant to_register refl tt tt refl (at_most stack)
            (steady_sets denied R W m lo hi own sp w.steps _ _ _ Mov false (Immediate 16) (ToReg 15) _ _ _ g p.1.0 given to_register refl tt tt refl (at_most stack) w.runs);
        so = record { place = f.place; stack = f.stack; quotient_is = f.quotient_is ∙ quotient_of w.so.0 w.so.1 x y w.so.2 same; divisor_is = f.divisor_is; remainder_is = f.remainder_is ∙ remainder_of w.so.0 w.so.1 x y w.so.2 same; sign_is = f.sign_is; kept = f.kept };
      }

  -- ---- a divisor of 0: the loop ends all the same

  digit_none : (x rem count : ℕ) (r : ℕ → ℕ) → x + 1 < 65536 → Shifted x 0 rem count r → Went denied R W sp m 5 r (At (base + 20) sp (x + 1) 0 (rem % 65536) count sign q)
  digit_none x rem count r fits s = ⊎_elim small_rem big_rem (cases_lt rem 65536)
    where
      taken : (t : ℕ → ℕ) → At (base + 16) sp x 0 (rem % 65536) count sign q t → Went denied R W sp m 2 t (At (base + 20) sp (x + 1) 0 (rem % 65536) count sign q)
      taken t a =
          let l : rem % 65536 < 65536 = omega arith in
          let less_none : rem % 65536 - 0 ≡ rem % 65536 = omega arith in
          subst (λ (k : ℕ). Went denied R W sp m 2 t (At (base + 20) sp (x + 1) 0 k count sign q)) less_none (subtracts x 0 (rem % 65536) count t fits (omega arith) (omega arith) (omega arith) (record { place = a.place; stack = a.stack; number = a.number; divisor = a.divisor; rest = a.rest ∙ sym (small l); left = a.left; sign_is = a.sign_is; kept = a.kept }))

      big_rem : 65536 ≤ rem → Went denied R W sp m 5 r (At (base + 20) sp (x + 1) 0 (rem % 65536) count sign q)
      big_rem h =
          let z = then_went denied R W sp m 1 2 r _ _ (tests_big x 0 rem count r h s.at s.carry) taken in
          record { steps = z.steps; within = omega (arith, z.within); end = z.end; runs = z.runs; so = z.so }

      small_rem : rem < 65536 → Went denied R W sp m 5 r (At (base + 20) sp (x + 1) 0 (rem % 65536) count sign q)
      small_rem h = then_went denied R W sp m 3 2 r _ _ (tests x 0 rem count r true h (le-leb 0 rem (omega arith)) s.at s.carry) (λ t a. taken t (record { place = a.place; stack = a.stack; number = a.number; divisor = a.divisor; rest = a.rest ∙ sym (small h); left = a.left; sign_is = a.sign_is; kept = a.kept }))

  -- somewhere in the loop
  record AtSome (pc count : ℕ) (t : ℕ → ℕ) : Type 0 where
    x : ℕ
    word : x < 65536
    rem : ℕ
    at : At pc sp x 0 rem count sign q t

  turn_none : (count : ℕ) (r : ℕ → ℕ) → AtSome (base + 6) count r → Went denied R W sp m 7 r (AtSome (base + 20) count)
  turn_none count r a = ⊎_elim (λ (l : a.x < 32768). with_bit 0 a.x (omega arith) l (omega arith)) (λ (l : 32768 ≤ a.x). with_bit 1 (a.x - 32768) (omega arith) (omega (arith, a.word)) (omega arith)) (cases_lt a.x 32768)
    where
      with_bit : (t low : ℕ) → t < 2 → low < 32768 → a.x ≡ t * 32768 + low → Went denied R W sp m 7 r (AtSome (base + 20) count)
      with_bit t low t2 l e =
          let fits : 2 * low + 1 < 65536 = omega arith in
          then_went denied R W sp m 2 5 r _ _ (shifts a.x t low 0 a.rem count r t2 l e a.at) (λ u s. let z = digit_none (2 * low) (2 * a.rem + t) count u fits s in record { steps = z.steps; within = z.within; end = z.end; runs = z.runs; so = record { x = 2 * low + 1; word = fits; rem = (2 * a.rem + t) % 65536; at = z.so } })

  record AfterSome (t : ℕ → ℕ) : Type 0 where
    quotient : ℕ
    remainder : ℕ
    after : After quotient remainder 0 t

  loop_none : (k : ℕ) (r : ℕ → ℕ) → k < 16 → AtSome (base + 6) (suc k) r → Went denied R W sp m (9 * suc k) r AfterSome
  loop_none zero r h a =
      then_went denied R W sp m 7 2 r _ _ (turn_none 1 r a) (λ t b. let z = ends b.x 0 b.rem t b.at in record { steps = z.steps; within = z.within; end = z.end; runs = z.runs; so = record { quotient = b.x; remainder = b.rem; after = z.so } })
  loop_none (suc k) r h a =
      let l : suc k < 65535 = omega arith in
      let z = then_went denied R W sp m 7 (2 + 9 * suc k) r _ _ (turn_none (suc (suc k)) r a) (λ t b. then_went denied R W sp m 2 (9 * suc k) t _ _ (again b.x 0 b.rem (suc k) t (omega arith) l b.at) (λ v c. loop_none k v (omega (arith, h)) (record { x = b.x; word = b.word; rem = b.rem; at = c }))) in
      record { steps = z.steps; within = omega (arith, z.within); end = z.end; runs = z.runs; so = z.so }

  pub divides_none : (x : ℕ) (r : ℕ → ℕ) → x < 65536 → r 0 ≡ base → r 1 ≡ sp → r 12 ≡ x → r 13 ≡ 0 → r 11 ≡ sign → IsKept always_kept q r → (a : ℕ) × (b : ℕ) × Went denied R W sp m 146 r (After a b 0)
  divides_none x r word pc stack first second s kept =
      let p = moved m lo hi _ _ (divide_then tail) (sym pc) placed in
      let place : r 0 + 2 + 4 ≡ base + 6 = omega arith in
      let r2 : ℕ → ℕ = set_reg (set_reg (set_reg (set_reg r 0 (r 0 + 2)) 14 0) 0 (r 0 + 2 + 4)) 15 16 in
      let a : At (base + 6) sp x 0 0 16 sign q r2 = record { place = place; stack = stack; number = first; divisor = second; rest = refl; left = refl; sign_is = s; kept = kept } in
      let w = loop_none 15 r2 (omega arith) (record { x = x; word = word; rem = 0; at = a }) in (
        w.so.quotient,
        w.so.remainder,
        record {
          steps = suc (suc w.steps);
          within = omega (arith, w.within);
          end = w.end;
          runs =
              steady_sets denied R W m lo hi own sp (suc w.steps) _ _ _ Mov false (Constant Zero) (ToReg 14) _ _ _ g p.0 constant to_register refl tt tt refl (at_most stack)
              (steady_sets denied R W m lo hi own sp w.steps _ _ _ Mov false (Immediate 16) (ToReg 15) _ _ _ g p.1.0 given to_register refl tt tt refl (at_most stack) w.runs);
          so = w.so.after;
        },
      )
