-- Multiplication by shift and add, from the lowest bit of the multiplier on, until none is left.
use Rattle.std.proofs.Common.{◌≡◌, ◌≢◌, ℕ, zero, suc, ◌+◌, ◌-◌, ◌*◌, ◌/◌, ◌%◌, ◌<◌, ◌≤◌, refl, sym, ap, ◌∙◌, arith, Bool, true, false, not, ◌&&◌, List, [], ◌∷◌, ◌⊎◌, inl, inr, bit_xor}
use Rattle.std.proofs.lemmas.Bool.{cases_eq, eq-eqb, ne_eqb, lt-leb}
use Rattle.std.specs.Int.Bits.{xor_self}
use Rattle.std.proofs.Math.Pow.{pow_mono}
use Rattle.std.specs.Prelude.{◌^◌, pos, negsuc, nat_eq}
use Rattle.isa430.specs.declared.instr.TwoOp.TheVariants.{Mov, Add, Xor}
use Rattle.isa430.specs.declared.instr.OneOp.TheVariants.{Rra, Rrc}
use Rattle.isa430.specs.declared.instr.Src.TheVariants.{Reg, Increment}
use Rattle.isa430.specs.declared.instr.Dst.TheVariants.{Reg as ToReg}
use Rattle.isa430.specs.declared.instr.Cond.TheVariants.{Nc, Nz}
use Rattle.isa430.specs.declared.instr.Instr.{Instr}
use Rattle.isa430.specs.declared.instr.Instr.TheVariants.{Two, One, Jump}
use Rattle.core430.specs.Status.{bit, carry_of, zero_of}
use Rattle.core430.specs.Arithmetic.{logic_status, shifted, is_negative}
use Rattle.run430.specs.Code.{Agrees, Placed, Owns, words_of_code}
use Rattle.run430.specs.Routine.{IsKept, RoutineReads, RoutineWrites}
use Rattle.run430.proofs.Words.{Agrees-self}
use Rattle.run430.proofs.Placing.{places, moved}
use Rattle.run430.proofs.Steady.{steady_sets, steady_one_sets, steady_jump}
use Rattle.run430.proofs.Operands.{in_register, to_register}
use Rattle.run430.proofs.FlagLemmas.{logic_carry, shift_carry, shift_zero}
use Rattle.rt430.specs.declared.words.Helper.TheVariants.{Mul16}
use Rattle.rt430.specs.Routines.{kept_by, Returns, Computes}
use Rattle.run430.proofs.Return.{kept_self}
use Rattle.rt430.proofs.Stretch.{at_most, new_flags, Went, then_went, AtReturn, owns, comes_back}

abbrev return_part : List Instr
return_part = Two Mov false (Increment 1) (ToReg 0) ∷ []

abbrev answer_part : List Instr
answer_part = Two Mov false (Reg 14) (ToReg 12) ∷ return_part

abbrev last_part : List Instr
last_part =
    Jump Nc (pos 1)
    ∷ Two Add false (Reg 13) (ToReg 14)
    ∷ answer_part

abbrev next_part : List Instr
next_part = Jump Nz (negsuc 4) ∷ last_part

abbrev double_part : List Instr
double_part =
    Two Add false (Reg 13) (ToReg 13)
    ∷ One Rra false (Reg 12)
    ∷ next_part

abbrev loop_part : List Instr
loop_part =
    Jump Nc (pos 1)
    ∷ Two Add false (Reg 13) (ToReg 14)
    ∷ double_part

abbrev pub code : List Instr
code =
    Two Xor false (Reg 14) (ToReg 14)
    ∷ One Rrc false (Reg 12)
    ∷ loop_part

-- the registers at a place in the loop: what is left of the multiplier, the other factor at that bit, and the sum so far
record At (pc sp y b acc : ℕ) (q r : ℕ → ℕ) : Type 0 where
  place : r 0 ≡ pc
  stack : r 1 ≡ sp
  left : r 12 ≡ y
  other : r 13 ≡ b % 65536
  total : r 14 ≡ acc % 65536
  kept : IsKept (kept_by Mul16) q r

-- and the carry has the bit that is looked at
record AtBit (pc sp y b acc : ℕ) (one : Bool) (q r : ℕ → ℕ) : Type 0 where
  at : At pc sp y b acc q r
  carry : carry_of (r 2) ≡ one

-- ---- what the turns compute

-- the lowest bit
abbrev odd : ℕ → Bool
odd y = nat_eq (y % 2) 1

bit_odd : (y : ℕ) → bit (odd y) + 2 * (y / 2) ≡ y
bit_odd y = from (cases_eq (y % 2) 1)
  where
    from : ((y % 2 ≡ 1) ⊎ (y % 2 ≡ 1 → ⊥)) → bit (odd y) + 2 * (y / 2) ≡ y
    from (inl e) = let b : bit (odd y) ≡ 1 = ap bit (eq-eqb (y % 2) 1 e) in omega arith
    from (inr n) = let b : bit (odd y) ≡ 0 = ap bit (ne_eqb (y % 2) 1 n) in omega arith

-- what a turn leaves to be added is what was left before it
one_turn : (y b acc c : ℕ) → (acc + c * b) + (bit (odd y) + 2 * (y / 2)) * (2 * b) ≡ acc + (c + 2 * y) * b
one_turn y b acc c = let e : (bit (odd y) + 2 * (y / 2)) * (2 * b) ≡ y * (2 * b) = ap (λ (k : ℕ). k * (2 * b)) (bit_odd y) in omega arith

last_turn : (y b acc c : ℕ) → y / 2 ≡ 0 → (acc + c * b) + bit (odd y) * (2 * b) ≡ acc + (c + 2 * y) * b
last_turn y b acc c z = let e = one_turn y b acc c in let n : bit (odd y) + 2 * (y / 2) ≡ bit (odd y) = omega arith in let d = ap (λ (k : ℕ). k * (2 * b)) n in omega arith

half_below : (y k : ℕ) → y < 2 ^ suc (suc k) → y / 2 < 2 ^ suc k
half_below y k h = let e : 2 ^ suc (suc k) ≡ 2 * 2 ^ suc k = omega arith in omega arith

word_below : (y k : ℕ) → k < 15 → y < 2 ^ suc k → y < 32768
word_below y k l h = let e : 2 ^ suc k ≤ 2 ^ 15 = pow_mono {i = suc k} {j = 15} (omega arith) in omega arith

-- ---- the machine

module _ (denied : ℕ → Bool) (R W : ℕ → Type 0) (lo hi : ℕ) (own : Owns R lo hi) (base sp : ℕ) (q m : ℕ → ℕ) (placed : Placed m lo hi base code) where
  g : Agrees m lo hi m
  g = Agrees-self m lo hi

  -- R14 and the carry are cleared, and the first bit is taken out
  starts : (x y : ℕ) (r : ℕ → ℕ) → r 0 ≡ base → r 1 ≡ sp → r 12 ≡ x → r 13 ≡ y → y < 65536 → IsKept (kept_by Mul16) q r → Went denied R W sp m 2 r (AtBit (base + 4) sp (x / 2) y 0 (odd x) q)
  starts x y r pc stack first second fits kept =
      let p = moved m lo hi _ _ code (sym pc) placed in
      let place : r 0 + 2 + 2 ≡ base + 4 = omega arith in
      let none : bit_xor (r 14) (r 14) ≡ 0 = xor_self (r 14) in
      let clear : carry_of (logic_status false (r 2) (bit_xor (r 14) (r 14)) (is_negative false (r 14) && is_negative false (r 14))) ≡ false = logic_carry false (r 2) (bit_xor (r 14) (r 14)) (is_negative false (r 14) && is_negative false (r 14)) ∙ ap (λ (k : ℕ). not (nat_eq k 0)) none in
      let half : shifted false (carry_of (logic_status false (r 2) (bit_xor (r 14) (r 14)) (is_negative false (r 14) && is_negative false (r 14)))) (r 12) ≡ x / 2 = ap (λ (b : Bool). shifted false b (r 12)) clear ∙ ap (λ (k : ℕ). shifted false false k) first ∙ (let z : x / 2 + 0 ≡ x / 2 = omega arith in z) in
      let other : r 13 ≡ y % 65536 = omega (arith, second) in
      record {
        steps = 2;
        within = omega arith;
        end = _;
        runs =
            steady_sets denied R W m lo hi own sp 1 _ _ _ Xor false (Reg 14) (ToReg 14) _ _ _ g p.0 in_register to_register refl tt tt refl (at_most stack)
            (steady_one_sets denied R W m lo hi own sp 0 _ _ _ Rrc false (Reg 12) _ _ g p.1.0 in_register refl tt refl (at_most stack) refl);
        so = record {
          at = record { place = place; stack = stack; left = half; other = other; total = none; kept = (new_flags _ _ _ _ _ _ (new_flags _ _ _ _ _ _ kept.0), kept.1) };
          carry = shift_carry false _ (r 12) _ ∙ ap odd first;
        };
      }

  -- the bit is added where it is 1
  adds : (one : Bool) (y b acc : ℕ) (r : ℕ → ℕ) → AtBit (base + 4) sp y b acc one q r → Went denied R W sp m 2 r (At (base + 8) sp y b (acc + bit one * b) q)
  adds false y b acc r s =
      let a = s.at in let pc = a.place in let ft = a.total in
      let e : base + 2 + 2 ≡ r 0 = omega arith in
      let p = moved m lo hi _ _ loop_part e placed.1.1 in
      let high = p.1.1.0.high in let top = p.1.1.0.top in
      let to : (r 0 + 2 + 2) % 65536 ≡ base + 8 = omega arith in
      let below : base + 8 < 65280 = omega arith in
      let total : r 14 ≡ (acc + 0 * b) % 65536 = omega arith in
      record {
        steps = 1;
        within = omega arith;
        end = _;
        runs = steady_jump denied R W m lo hi own sp 0 _ _ _ Nc (pos 1) true (base + 8) g p.0 (ap not s.carry) to below (at_most a.stack) refl;
        so = record { place = refl; stack = a.stack; left = a.left; other = a.other; total = total; kept = a.kept };
      }
  adds true y b acc r s =
      let a = s.at in let pc = a.place in let ft = a.total in let fo = a.other in
      let e : base + 2 + 2 ≡ r 0 = omega arith in
      let p = moved m lo hi _ _ loop_part e placed.1.1 in
      let high = p.1.1.0.high in let top = p.1.1.0.top in
      let to : (r 0 + 2 + 2) % 65536 ≡ r 0 + 4 = omega arith in
      let below : r 0 + 4 < 65280 = omega arith in
      let place : r 0 + 2 + 2 ≡ base + 8 = omega arith in
      let total : (r 14 + r 13 + 0) % 65536 ≡ (acc + 1 * b) % 65536 = omega arith in
      record {
        steps = 2;
        within = omega arith;
        end = _;
        runs =
            steady_jump denied R W m lo hi own sp 1 _ _ _ Nc (pos 1) false (r 0 + 4) g p.0 (ap not s.carry) to below (at_most a.stack)
            (steady_sets denied R W m lo hi own sp 0 _ _ _ Add false (Reg 13) (ToReg 14) _ _ _ g p.1.0 in_register to_register refl tt tt refl (at_most a.stack) refl);
        so = record { place = place; stack = a.stack; left = a.left; other = a.other; total = total; kept = (new_flags _ _ _ _ _ _ a.kept.0, a.kept.1) };
      }

  -- the next bit is taken out, and the zero flag says whether it was the last
  record Doubled (y b acc : ℕ) (r : ℕ → ℕ) : Type 0 where
    bits : AtBit (base + 12) sp (y / 2) (2 * b) acc (odd y) q r
    none : zero_of (r 2) ≡ nat_eq (y / 2) 0

  doubles : (y b acc : ℕ) (r : ℕ → ℕ) → y < 32768 → At (base + 8) sp y b acc q r → Went denied R W sp m 2 r (Doubled y b acc)
  doubles y b acc r l a =
      let pc = a.place in let fy = a.left in let fo = a.other in
      let e : base + 2 + 2 + 2 + 2 ≡ r 0 = omega arith in
      let p = moved m lo hi _ _ double_part e placed.1.1.1.1 in
      let place : r 0 + 2 + 2 ≡ base + 12 = omega arith in
      let low : r 12 < 32768 = omega arith in
      let half : shifted false (is_negative false (r 12)) (r 12) ≡ y / 2 = ap (λ (b : Bool). shifted false b (r 12)) (lt-leb 32768 (r 12) low) ∙ ap (λ (k : ℕ). shifted false false k) fy ∙ (let z : y / 2 + 0 ≡ y / 2 = omega arith in z) in
      let other : (r 13 + r 13 + 0) % 65536 ≡ (2 * b) % 65536 = omega arith in
      record {
        steps = 2;
        within = omega arith;
        end = _;
        runs =
            steady_sets denied R W m lo hi own sp 1 _ _ _ Add false (Reg 13) (ToReg 13) _ _ _ g p.0 in_register to_register refl tt tt refl (at_most a.stack)
            (steady_one_sets denied R W m lo hi own sp 0 _ _ _ Rra false (Reg 12) _ _ g p.1.0 in_register refl tt refl (at_most a.stack) refl);
        so = record {
          bits = record {
            at = record { place = place; stack = a.stack; left = half; other = other; total = a.total; kept = (new_flags _ _ _ _ _ _ (new_flags _ _ _ _ _ _ a.kept.0), a.kept.1) };
            carry = shift_carry false _ (r 12) _ ∙ ap odd fy;
          };
          none = shift_zero false _ (r 12) _ ∙ ap (λ (k : ℕ). nat_eq k 0) half;
        };
      }

  -- one turn, up to the look whether bits are left
  turn : (y b acc : ℕ) (one : Bool) (r : ℕ → ℕ) → y < 32768 → AtBit (base + 4) sp y b acc one q r → Went denied R W sp m 4 r (Doubled y b (acc + bit one * b))
  turn y b acc one r l a = then_went denied R W sp m 2 2 r _ _ (adds one y b acc r a) (λ t u. doubles y b (acc + bit one * b) t l u)

  again : (y b acc : ℕ) (r : ℕ → ℕ) → y / 2 ≢ 0 → Doubled y b acc r → Went denied R W sp m 1 r (AtBit (base + 4) sp (y / 2) (2 * b) acc (odd y) q)
  again y b acc r some d =
      let a = d.bits.at in let pc = a.place in
      let e : base + 2 + 2 + 2 + 2 + 2 + 2 ≡ r 0 = omega arith in
      let p = moved m lo hi _ _ next_part e placed.1.1.1.1.1.1 in
      let high = p.1.1.0.high in let top = p.1.1.0.top in
      let to : (r 0 + 2 + 65536 - 10) % 65536 ≡ base + 4 = omega arith in
      let below : base + 4 < 65280 = omega arith in
      record {
        steps = 1;
        within = omega arith;
        end = _;
        runs = steady_jump denied R W m lo hi own sp 0 _ _ _ Nz (negsuc 4) true (base + 4) g p.0 (ap not (d.none ∙ ne_eqb (y / 2) 0 some)) to below (at_most a.stack) refl;
        so = record { at = record { place = refl; stack = a.stack; left = a.left; other = a.other; total = a.total; kept = a.kept }; carry = d.bits.carry };
      }

  past : (y b acc : ℕ) (r : ℕ → ℕ) → y / 2 ≡ 0 → Doubled y b acc r → Went denied R W sp m 1 r (AtBit (base + 14) sp 0 (2 * b) acc (odd y) q)
  past y b acc r none d =
      let a = d.bits.at in let pc = a.place in
      let e : base + 2 + 2 + 2 + 2 + 2 + 2 ≡ r 0 = omega arith in
      let p = moved m lo hi _ _ next_part e placed.1.1.1.1.1.1 in
      let high = p.1.1.0.high in let top = p.1.1.0.top in
      let to : (r 0 + 2 + 65536 - 10) % 65536 ≡ base + 4 = omega arith in
      let below : base + 4 < 65280 = omega arith in
      let place : r 0 + 2 ≡ base + 14 = omega arith in
      record {
        steps = 1;
        within = omega arith;
        end = _;
        runs = steady_jump denied R W m lo hi own sp 0 _ _ _ Nz (negsuc 4) false (base + 4) g p.0 (ap not (d.none ∙ eq-eqb (y / 2) 0 none)) to below (at_most a.stack) refl;
        so = record { at = record { place = place; stack = a.stack; left = a.left ∙ none; other = a.other; total = a.total; kept = a.kept }; carry = d.bits.carry };
      }

  -- the last bit, and the answer
  ends : (one : Bool) (b acc : ℕ) (r : ℕ → ℕ) → AtBit (base + 14) sp 0 b acc one q r → Went denied R W sp m 3 r (AtReturn (base + 20) sp ((acc + bit one * b) % 65536) (kept_by Mul16) q)
  ends false b acc r s =
      let a = s.at in let pc = a.place in let ft = a.total in
      let e : base + 2 + 2 + 2 + 2 + 2 + 2 + 2 ≡ r 0 = omega arith in
      let p = moved m lo hi _ _ last_part e placed.1.1.1.1.1.1.1 in
      let e2 : r 0 + 2 + 2 ≡ base + 18 = omega arith in
      let p2 = moved m lo hi _ _ answer_part e2 p.1.1 in
      let high = p2.0.high in let top = p2.0.top in
      let to : (r 0 + 2 + 2) % 65536 ≡ base + 18 = omega arith in
      let below : base + 18 < 65280 = omega arith in
      let place : base + 18 + 2 ≡ base + 20 = omega arith in
      let total : r 14 ≡ (acc + 0 * b) % 65536 = omega arith in
      record {
        steps = 2;
        within = omega arith;
        end = _;
        runs =
            steady_jump denied R W m lo hi own sp 1 _ _ _ Nc (pos 1) true (base + 18) g p.0 (ap not s.carry) to below (at_most a.stack)
            (steady_sets denied R W m lo hi own sp 0 _ _ _ Mov false (Reg 14) (ToReg 12) _ _ _ g p2.0 in_register to_register refl tt tt refl (at_most a.stack) refl);
        so = record { place = place; stack = a.stack; answers = total; kept = a.kept };
      }
  ends true b acc r s =
      let a = s.at in let pc = a.place in let ft = a.total in let fo = a.other in
      let e : base + 2 + 2 + 2 + 2 + 2 + 2 + 2 ≡ r 0 = omega arith in
      let p = moved m lo hi _ _ last_part e placed.1.1.1.1.1.1.1 in
      let high = p.1.1.0.high in let top = p.1.1.0.top in
      let to : (r 0 + 2 + 2) % 65536 ≡ r 0 + 4 = omega arith in
      let below : r 0 + 4 < 65280 = omega arith in
      let place : r 0 + 2 + 2 + 2 ≡ base + 20 = omega arith in
      let total : (r 14 + r 13 + 0) % 65536 ≡ (acc + 1 * b) % 65536 = omega arith in
      record {
        steps = 3;
        within = omega arith;
        end = _;
        runs =
            steady_jump denied R W m lo hi own sp 2 _ _ _ Nc (pos 1) false (r 0 + 4) g p.0 (ap not s.carry) to below (at_most a.stack)
            (steady_sets denied R W m lo hi own sp 1 _ _ _ Add false (Reg 13) (ToReg 14) _ _ _ g p.1.0 in_register to_register refl tt tt refl (at_most a.stack)
            (steady_sets denied R W m lo hi own sp 0 _ _ _ Mov false (Reg 14) (ToReg 12) _ _ _ g p.1.1.0 in_register to_register refl tt tt refl (at_most a.stack) refl));
        so = record { place = place; stack = a.stack; answers = total; kept = (new_flags _ _ _ _ _ _ a.kept.0, a.kept.1) };
      }

  -- all the turns, where no more than k + 1 bits are left
  abbrev Loops : ℕ → Type 0
  Loops k = (y b acc : ℕ) (one : Bool) (r : ℕ → ℕ) → y < 2 ^ suc k → AtBit (base + 4) sp y b acc one q r → Went denied R W sp m (5 * suc k + 3) r (AtReturn (base + 20) sp ((acc + (bit one + 2 * y) * b) % 65536) (kept_by Mul16) q)

  stops : (k y b acc : ℕ) (one : Bool) (t : ℕ → ℕ) → y / 2 ≡ 0 → Doubled y b (acc + bit one * b) t → Went denied R W sp m 4 t (AtReturn (base + 20) sp ((acc + (bit one + 2 * y) * b) % 65536) (kept_by Mul16) q)
  stops k y b acc one t none d =
      let z = then_went denied R W sp m 1 3 t _ _ (past y b (acc + bit one * b) t none d) (λ u s. ends (odd y) (2 * b) (acc + bit one * b) u s) in
      record { steps = z.steps; within = z.within; end = z.end; runs = z.runs; so = record { place = z.so.place; stack = z.so.stack; answers = z.so.answers ∙ ap (λ (n : ℕ). n % 65536) (last_turn y b acc (bit one) none); kept = z.so.kept } }

  goes_on : (k y b acc : ℕ) (one : Bool) (t : ℕ → ℕ) → Loops k → y < 2 ^ suc (suc k) → y / 2 ≢ 0 → Doubled y b (acc + bit one * b) t → Went denied R W sp m (1 + (5 * suc k + 3)) t (AtReturn (base + 20) sp ((acc + (bit one + 2 * y) * b) % 65536) (kept_by Mul16) q)
  goes_on k y b acc one t rest l some d =
      let z = then_went denied R W sp m 1 (5 * suc k + 3) t _ _ (again y b (acc + bit one * b) t some d) (λ u s. rest (y / 2) (2 * b) (acc + bit one * b) (odd y) u (half_below y k l) s) in
      record { steps = z.steps; within = z.within; end = z.end; runs = z.runs; so = record { place = z.so.place; stack = z.so.stack; answers = z.so.answers ∙ ap (λ (n : ℕ). n % 65536) (one_turn y b acc (bit one)); kept = z.so.kept } }

  last : Loops 0
  last y b acc one r l a =
      let none : y / 2 ≡ 0 = omega arith in
      then_went denied R W sp m 4 4 r _ _ (turn y b acc one r (omega arith) a) (λ t d. stops 0 y b acc one t none d)

  more : (k : ℕ) → suc k < 15 → Loops k → Loops (suc k)
  more k h rest y b acc one r l a =
      let z = then_went denied R W sp m 4 (1 + (5 * suc k + 3)) r _ _ (turn y b acc one r (word_below y (suc k) h l) a) (λ t d. next t d (cases_eq (y / 2) 0)) in
      record { steps = z.steps; within = omega (arith, z.within); end = z.end; runs = z.runs; so = z.so }
    where
      next : (t : ℕ → ℕ) → Doubled y b (acc + bit one * b) t → ((y / 2 ≡ 0) ⊎ (y / 2 ≡ 0 → ⊥)) → Went denied R W sp m (1 + (5 * suc k + 3)) t (AtReturn (base + 20) sp ((acc + (bit one + 2 * y) * b) % 65536) (kept_by Mul16) q)
      next t d (inl none) = let z = stops k y b acc one t none d in record { steps = z.steps; within = omega (arith, z.within); end = z.end; runs = z.runs; so = z.so }
      next t d (inr some) = goes_on k y b acc one t rest l some d

  loop : (k : ℕ) → k < 15 → Loops k
  loop zero h = last
  loop (suc k) h = more k h (loop k (omega arith))

  whole : (x y : ℕ) (r : ℕ → ℕ) → r 0 ≡ base → r 1 ≡ sp → r 12 ≡ x → x < 65536 → r 13 ≡ y → y < 65536 → IsKept (kept_by Mul16) q r → Went denied R W sp m 80 r (AtReturn (base + 20) sp ((x * y) % 65536) (kept_by Mul16) q)
  whole x y r pc stack first fits second fits2 kept =
      let half : x / 2 < 32768 = omega arith in
      let z = then_went denied R W sp m 2 78 r _ _ (starts x y r pc stack first second fits2 kept) (λ t a. loop 14 (omega arith) (x / 2) y 0 (odd x) t half a) in
      let product : 0 + (bit (odd x) + 2 * (x / 2)) * y ≡ x * y = ap (λ (k : ℕ). 0 + k * y) (bit_odd x) ∙ (let e : 0 + x * y ≡ x * y = omega arith in e) in
      record { steps = z.steps; within = z.within; end = z.end; runs = z.runs; so = record { place = z.so.place; stack = z.so.stack; answers = z.so.answers ∙ ap (λ (k : ℕ). k % 65536) product; kept = z.so.kept } }

pub multiplies : Computes Mul16 (words_of_code code)
multiplies denied base x y s h d =
    let high = h.base_high in
    let low = h.base_low in
    let top : base + 22 < 65280 = omega arith in
    let placed = places s.memory base (base + 22) top code base h.words refl h.base_even (omega arith) (omega arith) in
    let w = whole denied (RoutineReads base 22 (s.regs 1)) (RoutineWrites (s.regs 1)) base (base + 22) (owns base 22 (s.regs 1)) base (s.regs 1) s.regs s.memory placed x y s.regs h.place refl h.first h.first_word h.second h.second_word (kept_self (kept_by Mul16) s.regs) in
    let e : base + 2 + 2 + 2 + 2 + 2 + 2 + 2 + 2 + 2 + 2 ≡ base + 20 = omega arith in
    let back = moved s.memory base (base + 22) _ _ return_part e placed.1.1.1.1.1.1.1.1.1.1 in
    comes_back denied base 22 (base + 20) 80 ((x * y) % 65536) (kept_by Mul16) s (λ r a b c k. k) h.stack_even (omega arith) back.0 w

pub product_returns : Returns Mul16 (words_of_code code)
product_returns denied base x y s h = ((x * y) % 65536, multiplies denied base x y s h tt)
