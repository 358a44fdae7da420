-- The two routines of signed division. Both divide the magnitudes, and give the answer the sign that R11 has.
use Rattle.std.proofs.Common.{◌≡◌, ◌≢◌, ℕ, ◌+◌, ◌/◌, ◌%◌, ◌<◌, ◌≤◌, refl, sym, ap, ◌∙◌, subst, arith, Bool, true, false, List, [], ◌∷◌, ◌⊎◌, inl, inr, ⊎_elim, bit_xor}
use Rattle.std.proofs.lemmas.Bool.{cases_lt, cases_eq}
use Rattle.std.specs.Prelude.{pos}
use Rattle.isa430.specs.declared.instr.TwoOp.TheVariants.{Mov, Add, Cmp, Xor}
use Rattle.isa430.specs.declared.instr.Gen.TheVariants.{Zero, One as ConstantOne, MinusOne}
use Rattle.isa430.specs.declared.instr.Src.TheVariants.{Reg, Increment, Constant}
use Rattle.isa430.specs.declared.instr.Dst.TheVariants.{Reg as ToReg}
use Rattle.isa430.specs.declared.instr.Cond.TheVariants.{Ge}
use Rattle.isa430.specs.declared.instr.Instr.{Instr}
use Rattle.isa430.specs.declared.instr.Instr.TheVariants.{Two, Jump}
use Rattle.core430.specs.Step.{State}
use Rattle.run430.specs.Code.{Agrees, Placed, Owns, words_of_code}
use Rattle.run430.specs.Routine.{IsCall, IsKept, RoutineReads, RoutineWrites}
use Rattle.run430.proofs.Words.{Agrees-self}
use Rattle.run430.proofs.Placing.{places, moved}
use Rattle.run430.proofs.Steady.{steady_sets, steady_jump}
use Rattle.run430.proofs.Operands.{in_register, to_register, constant}
use Rattle.rt430.specs.declared.words.Helper.TheVariants.{Sdiv16, Smod16}
use Rattle.rt430.specs.Routines.{always_kept, Answers, Returns, Computes}
use Rattle.run430.proofs.Return.{kept_self}
use Rattle.rt430.proofs.Stretch.{at_most, new_flags, Went, then_went, AtReturn, owns, comes_back}
use Rattle.rt430.proofs.Divide.{divide_then, divides, divides_none}
use Rattle.rt430.proofs.Signs.{turned, turned_if, magnitude, jumps, stays, turned_if_not, turned_if_so, magnitude_low, magnitude_some, xor_word, quotient_is, remainder_is}

abbrev return_part : List Instr
return_part = Two Mov false (Increment 1) (ToReg 0) ∷ []

-- R12 is negated where R11 is negative
abbrev sign_part : List Instr
sign_part =
    Two Cmp false (Constant Zero) (ToReg 11)
    ∷ Jump Ge (pos 2)
    ∷ Two Xor false (Constant MinusOne) (ToReg 12)
    ∷ Two Add false (Constant ConstantOne) (ToReg 12)
    ∷ return_part

-- R13 is negated where it is negative, and then R12 is divided by it
abbrev divisor_part : List Instr → List Instr
divisor_part tail =
    Two Cmp false (Constant Zero) (ToReg 13)
    ∷ Jump Ge (pos 2)
    ∷ Two Xor false (Constant MinusOne) (ToReg 13)
    ∷ Two Add false (Constant ConstantOne) (ToReg 13)
    ∷ divide_then tail

-- and R12 before
abbrev number_part : List Instr → List Instr
number_part tail =
    Two Cmp false (Constant Zero) (ToReg 12)
    ∷ Jump Ge (pos 2)
    ∷ Two Xor false (Constant MinusOne) (ToReg 12)
    ∷ Two Add false (Constant ConstantOne) (ToReg 12)
    ∷ divisor_part tail

abbrev signs_part : List Instr → List Instr
signs_part tail = Two Xor false (Reg 13) (ToReg 11) ∷ tail

abbrev pub quotient_code : List Instr
quotient_code = Two Mov false (Reg 12) (ToReg 11) ∷ signs_part (number_part sign_part)

abbrev rest_part : List Instr
rest_part = Two Mov false (Reg 14) (ToReg 12) ∷ sign_part

abbrev pub remainder_code : List Instr
remainder_code = Two Mov false (Reg 12) (ToReg 11) ∷ number_part rest_part

-- the registers before the loop
record Operands (pc sp x b sign : ℕ) (q r : ℕ → ℕ) : Type 0 where
  place : r 0 ≡ pc
  stack : r 1 ≡ sp
  number : r 12 ≡ x
  divisor : r 13 ≡ b
  sign_is : r 11 ≡ sign
  kept : IsKept always_kept q r

-- and after it: quotient and remainder of the magnitudes x and y, if y is not 0
record Halfway (pc sp x y sign : ℕ) (q r : ℕ → ℕ) : Type 0 where
  quotient : ℕ
  rest : ℕ
  so : y ≢ 0 → (quotient ≡ x / y) × (rest ≡ x % y)
  place : r 0 ≡ pc
  stack : r 1 ≡ sp
  quotient_is : r 12 ≡ quotient
  rest_is : r 14 ≡ rest
  sign_is : r 11 ≡ sign
  kept : IsKept always_kept q r

-- a result whose sign is still to be given
record Unsigned (pc sp v sign : ℕ) (q r : ℕ → ℕ) : Type 0 where
  place : r 0 ≡ pc
  stack : r 1 ≡ sp
  result_is : r 12 ≡ v
  sign_is : r 11 ≡ sign
  kept : IsKept always_kept q r

module _ (denied : ℕ → Bool) (R W : ℕ → Type 0) (lo hi : ℕ) (own : Owns R lo hi) (sp : ℕ) (q m : ℕ → ℕ) where
  g : Agrees m lo hi m
  g = Agrees-self m lo hi

  number : (pc x b sign : ℕ) (r : ℕ → ℕ) (tail : List Instr) → Placed m lo hi pc (number_part tail) → x < 65536 → Operands pc sp x b sign q r → Went denied R W sp m 4 r (Operands (pc + 8) sp (magnitude x) b sign q)
  number pc x b sign r tail placed word a = ⊎_elim low high (cases_lt x 32768)
    where
      low : x < 32768 → Went denied R W sp m 4 r (Operands (pc + 8) sp (magnitude x) b sign q)
      low l =
          let at = a.place in let fx = a.number in
          let p = moved m lo hi _ _ (number_part tail) (sym at) placed in
          let high = p.1.1.1.0.high in let top = p.1.1.1.0.top in
          let small : r 12 < 32768 = omega arith in
          let to : (r 0 + 2 + 2 + 4) % 65536 ≡ pc + 8 = omega arith in
          let below : pc + 8 < 65280 = omega arith in
          record {
            steps = 2;
            within = omega arith;
            end = _;
            runs =
                steady_sets denied R W m lo hi own sp 1 _ _ _ Cmp false (Constant Zero) (ToReg 12) _ _ _ g p.0 constant to_register refl tt tt refl (at_most a.stack)
                (steady_jump denied R W m lo hi own sp 0 _ _ _ Ge (pos 2) true (pc + 8) g p.1.0 (jumps _ (r 12) small) to below (at_most a.stack) refl);
            so = record { place = refl; stack = a.stack; number = fx ∙ sym (turned_if_not x x l); divisor = a.divisor; sign_is = a.sign_is; kept = (new_flags _ _ _ _ _ _ a.kept.0, a.kept.1) };
          }

      high : 32768 ≤ x → Went denied R W sp m 4 r (Operands (pc + 8) sp (magnitude x) b sign q)
      high l =
          let at = a.place in let fx = a.number in
          let p = moved m lo hi _ _ (number_part tail) (sym at) placed in
          let high = p.1.1.1.0.high in let top = p.1.1.1.0.top in
          let big : 32768 ≤ r 12 = omega arith in
          let fits : r 12 < 65536 = omega arith in
          let to : (r 0 + 2 + 2 + 4) % 65536 ≡ r 0 + 8 = omega arith in
          let below : r 0 + 8 < 65280 = omega arith in
          let place : r 0 + 2 + 2 + 2 + 2 ≡ pc + 8 = omega arith in
          record {
            steps = 4;
            within = omega arith;
            end = _;
            runs =
                steady_sets denied R W m lo hi own sp 3 _ _ _ Cmp false (Constant Zero) (ToReg 12) _ _ _ g p.0 constant to_register refl tt tt refl (at_most a.stack)
                (steady_jump denied R W m lo hi own sp 2 _ _ _ Ge (pos 2) false (r 0 + 8) g p.1.0 (stays _ (r 12) big fits) to below (at_most a.stack)
                (steady_sets denied R W m lo hi own sp 1 _ _ _ Xor false (Constant MinusOne) (ToReg 12) _ _ _ g p.1.1.0 constant to_register refl tt tt refl (at_most a.stack)
                (steady_sets denied R W m lo hi own sp 0 _ _ _ Add false (Constant ConstantOne) (ToReg 12) _ _ _ g p.1.1.1.0 constant to_register refl tt tt refl (at_most a.stack) refl)));
            so = record { place = place; stack = a.stack; number = ap turned fx ∙ sym (turned_if_so x x l); divisor = a.divisor; sign_is = a.sign_is; kept = (new_flags _ _ _ _ _ _ (new_flags _ _ _ _ _ _ (new_flags _ _ _ _ _ _ a.kept.0)), a.kept.1) };
          }

  divisor : (pc x b sign : ℕ) (r : ℕ → ℕ) (tail : List Instr) → Placed m lo hi pc (divisor_part tail) → b < 65536 → Operands pc sp x b sign q r → Went denied R W sp m 4 r (Operands (pc + 8) sp x (magnitude b) sign q)
  divisor pc x b sign r tail placed word a = ⊎_elim low high (cases_lt b 32768)
    where
      low : b < 32768 → Went denied R W sp m 4 r (Operands (pc + 8) sp x (magnitude b) sign q)
      low l =
          let at = a.place in let fb = a.divisor in
          let p = moved m lo hi _ _ (divisor_part tail) (sym at) placed in
          let high = p.1.1.1.0.high in let top = p.1.1.1.0.top in
          let small : r 13 < 32768 = omega arith in
          let to : (r 0 + 2 + 2 + 4) % 65536 ≡ pc + 8 = omega arith in
          let below : pc + 8 < 65280 = omega arith in
          record {
            steps = 2;
            within = omega arith;
            end = _;
            runs =
                steady_sets denied R W m lo hi own sp 1 _ _ _ Cmp false (Constant Zero) (ToReg 13) _ _ _ g p.0 constant to_register refl tt tt refl (at_most a.stack)
                (steady_jump denied R W m lo hi own sp 0 _ _ _ Ge (pos 2) true (pc + 8) g p.1.0 (jumps _ (r 13) small) to below (at_most a.stack) refl);
            so = record { place = refl; stack = a.stack; number = a.number; divisor = fb ∙ sym (turned_if_not b b l); sign_is = a.sign_is; kept = (new_flags _ _ _ _ _ _ a.kept.0, a.kept.1) };
          }

      high : 32768 ≤ b → Went denied R W sp m 4 r (Operands (pc + 8) sp x (magnitude b) sign q)
      high l =
          let at = a.place in let fb = a.divisor in
          let p = moved m lo hi _ _ (divisor_part tail) (sym at) placed in
          let high = p.1.1.1.0.high in let top = p.1.1.1.0.top in
          let big : 32768 ≤ r 13 = omega arith in
          let fits : r 13 < 65536 = omega arith in
          let to : (r 0 + 2 + 2 + 4) % 65536 ≡ r 0 + 8 = omega arith in
          let below : r 0 + 8 < 65280 = omega arith in
          let place : r 0 + 2 + 2 + 2 + 2 ≡ pc + 8 = omega arith in
          record {
            steps = 4;
            within = omega arith;
            end = _;
            runs =
                steady_sets denied R W m lo hi own sp 3 _ _ _ Cmp false (Constant Zero) (ToReg 13) _ _ _ g p.0 constant to_register refl tt tt refl (at_most a.stack)
                (steady_jump denied R W m lo hi own sp 2 _ _ _ Ge (pos 2) false (r 0 + 8) g p.1.0 (stays _ (r 13) big fits) to below (at_most a.stack)
                (steady_sets denied R W m lo hi own sp 1 _ _ _ Xor false (Constant MinusOne) (ToReg 13) _ _ _ g p.1.1.0 constant to_register refl tt tt refl (at_most a.stack)
                (steady_sets denied R W m lo hi own sp 0 _ _ _ Add false (Constant ConstantOne) (ToReg 13) _ _ _ g p.1.1.1.0 constant to_register refl tt tt refl (at_most a.stack) refl)));
            so = record { place = place; stack = a.stack; number = a.number; divisor = ap turned fb ∙ sym (turned_if_so b b l); sign_is = a.sign_is; kept = (new_flags _ _ _ _ _ _ (new_flags _ _ _ _ _ _ (new_flags _ _ _ _ _ _ a.kept.0)), a.kept.1) };
          }

  -- the loop, whatever the divisor
  loop : (pc x y sign : ℕ) (r : ℕ → ℕ) (tail : List Instr) → Placed m lo hi pc (divide_then tail) → x < 65536 → y < 65536 → Operands pc sp x y sign q r → Went denied R W sp m 146 r (Halfway (pc + 24) sp x y sign q)
  loop pc x y sign r tail placed fits word a = by_case (cases_eq y 0)
    where
      by_case : ((y ≡ 0) ⊎ (y ≡ 0 → ⊥)) → Went denied R W sp m 146 r (Halfway (pc + 24) sp x y sign q)
      by_case (inr n) =
          let w = divides denied R W lo hi own pc sp sign q m tail placed x y r (omega (arith, n)) word fits a.place a.stack a.number a.divisor a.sign_is a.kept in
          record { steps = w.steps; within = w.within; end = w.end; runs = w.runs; so = record { quotient = x / y; rest = x % y; so = λ d. (refl, refl); place = w.so.place; stack = w.so.stack; quotient_is = w.so.quotient_is; rest_is = w.so.remainder_is; sign_is = w.so.sign_is; kept = w.so.kept } }
      by_case (inl e) =
          let z = divides_none denied R W lo hi own pc sp sign q m tail placed x r fits a.place a.stack a.number (a.divisor ∙ e) a.sign_is a.kept in
          let w = z.2 in
          record { steps = w.steps; within = w.within; end = w.end; runs = w.runs; so = record { quotient = z.0; rest = z.1; so = λ d. absurd (d e); place = w.so.place; stack = w.so.stack; quotient_is = w.so.quotient_is; rest_is = w.so.remainder_is; sign_is = w.so.sign_is; kept = w.so.kept } }

  -- both magnitudes, and the loop
  halfway : (pc x y sign : ℕ) (r : ℕ → ℕ) (tail : List Instr) → Placed m lo hi pc (number_part tail) → x < 65536 → y < 65536 → Operands pc sp x y sign q r → Went denied R W sp m 154 r (Halfway (pc + 8 + 8 + 24) sp (magnitude x) (magnitude y) sign q)
  halfway pc x y sign r tail placed lx ly a =
      let e8 : pc + 2 + 2 + 2 + 2 ≡ pc + 8 = omega arith in
      let p8 = moved m lo hi _ _ (divisor_part tail) e8 placed.1.1.1.1 in
      let e16 : pc + 8 + 2 + 2 + 2 + 2 ≡ pc + 8 + 8 = omega arith in
      let p16 = moved m lo hi _ _ (divide_then tail) e16 p8.1.1.1.1 in
      let mx = magnitude_low x lx in
      let my = magnitude_low y ly in
      let fx : magnitude x < 65536 = omega (arith, mx) in
      let fy : magnitude y < 65536 = omega (arith, my) in
      then_went denied R W sp m 4 150 r _ _ (number pc x y sign r tail placed lx a) (λ t b.
      then_went denied R W sp m 4 146 t _ _ (divisor (pc + 8) (magnitude x) y sign t tail p8 ly b) (λ u c.
      loop (pc + 8 + 8) (magnitude x) (magnitude y) sign u tail p16 fx fy c))

  -- the sign is given
  signs : (pc v sign : ℕ) (r : ℕ → ℕ) → Placed m lo hi pc sign_part → sign < 65536 → Unsigned pc sp v sign q r → Went denied R W sp m 4 r (AtReturn (pc + 8) sp (turned_if sign v) always_kept q)
  signs pc v sign r placed word a = ⊎_elim low high (cases_lt sign 32768)
    where
      low : sign < 32768 → Went denied R W sp m 4 r (AtReturn (pc + 8) sp (turned_if sign v) always_kept q)
      low l =
          let at = a.place in let fs = a.sign_is in
          let p = moved m lo hi _ _ sign_part (sym at) placed in
          let high = p.1.1.1.0.high in let top = p.1.1.1.0.top in
          let small : r 11 < 32768 = omega arith in
          let to : (r 0 + 2 + 2 + 4) % 65536 ≡ pc + 8 = omega arith in
          let below : pc + 8 < 65280 = omega arith in
          record {
            steps = 2;
            within = omega arith;
            end = _;
            runs =
                steady_sets denied R W m lo hi own sp 1 _ _ _ Cmp false (Constant Zero) (ToReg 11) _ _ _ g p.0 constant to_register refl tt tt refl (at_most a.stack)
                (steady_jump denied R W m lo hi own sp 0 _ _ _ Ge (pos 2) true (pc + 8) g p.1.0 (jumps _ (r 11) small) to below (at_most a.stack) refl);
            so = record { place = refl; stack = a.stack; answers = a.result_is ∙ sym (turned_if_not sign v l); kept = (new_flags _ _ _ _ _ _ a.kept.0, a.kept.1) };
          }

      high : 32768 ≤ sign → Went denied R W sp m 4 r (AtReturn (pc + 8) sp (turned_if sign v) always_kept q)
      high l =
          let at = a.place in let fs = a.sign_is in
          let p = moved m lo hi _ _ sign_part (sym at) placed in
          let high = p.1.1.1.0.high in let top = p.1.1.1.0.top in
          let big : 32768 ≤ r 11 = omega arith in
          let fits : r 11 < 65536 = omega arith in
          let to : (r 0 + 2 + 2 + 4) % 65536 ≡ r 0 + 8 = omega arith in
          let below : r 0 + 8 < 65280 = omega arith in
          let place : r 0 + 2 + 2 + 2 + 2 ≡ pc + 8 = omega arith in
          record {
            steps = 4;
            within = omega arith;
            end = _;
            runs =
                steady_sets denied R W m lo hi own sp 3 _ _ _ Cmp false (Constant Zero) (ToReg 11) _ _ _ g p.0 constant to_register refl tt tt refl (at_most a.stack)
                (steady_jump denied R W m lo hi own sp 2 _ _ _ Ge (pos 2) false (r 0 + 8) g p.1.0 (stays _ (r 11) big fits) to below (at_most a.stack)
                (steady_sets denied R W m lo hi own sp 1 _ _ _ Xor false (Constant MinusOne) (ToReg 12) _ _ _ g p.1.1.0 constant to_register refl tt tt refl (at_most a.stack)
                (steady_sets denied R W m lo hi own sp 0 _ _ _ Add false (Constant ConstantOne) (ToReg 12) _ _ _ g p.1.1.1.0 constant to_register refl tt tt refl (at_most a.stack) refl)));
            so = record { place = place; stack = a.stack; answers = ap turned a.result_is ∙ sym (turned_if_so sign v l); kept = (new_flags _ _ _ _ _ _ (new_flags _ _ _ _ _ _ (new_flags _ _ _ _ _ _ a.kept.0)), a.kept.1) };
          }

  -- ---- the quotient

  abbrev Quotient : ℕ → ℕ → ℕ → (ℕ → ℕ) → Type 0
  Quotient pc x y t = (v : ℕ) × (magnitude y ≢ 0 → v ≡ magnitude x / magnitude y) × AtReturn pc sp (turned_if (bit_xor x y) v) always_kept q t

  pub quotient : (base x y : ℕ) (r : ℕ → ℕ) → Placed m lo hi base quotient_code → x < 65536 → y < 65536 → r 0 ≡ base → r 1 ≡ sp → r 12 ≡ x → r 13 ≡ y → IsKept always_kept q r → Went denied R W sp m 160 r (Quotient (base + 52) x y)
  quotient base x y r placed lx ly pc stack first second kept =
      then_went denied R W sp m 2 158 r _ _ start (λ t a.
      then_went denied R W sp m 154 4 t _ _ (halfway (base + 4) x y (bit_xor x y) t sign_part p4 lx ly a) (λ u b.
      let w = signs (base + 44) b.quotient (bit_xor x y) u p44 (xor_word x y lx ly) (record { place = b.place ∙ e44; stack = b.stack; result_is = b.quotient_is; sign_is = b.sign_is; kept = b.kept }) in
      record { steps = w.steps; within = w.within; end = w.end; runs = w.runs; so = (b.quotient, λ d. (b.so d).0, record { place = w.so.place ∙ e52; stack = w.so.stack; answers = w.so.answers; kept = w.so.kept }) }))
    where
      e44 : base + 4 + 8 + 8 + 24 ≡ base + 44
      e44 = omega arith

      e52 : base + 44 + 8 ≡ base + 52
      e52 = omega arith

      p4 : Placed m lo hi (base + 4) (number_part sign_part)
      p4 = let e : base + 2 + 2 ≡ base + 4 = omega arith in moved m lo hi _ _ (number_part sign_part) e placed.1.1

      p44 : Placed m lo hi (base + 44) sign_part
      p44 = let e : base + 4 + 2 + 2 + 2 + 2 + 2 + 2 + 2 + 2 + 2 + 4 + 2 + 2 + 2 + 2 + 2 + 2 + 2 + 2 + 2 ≡ base + 44 = omega arith in moved m lo hi _ _ sign_part e p4.1.1.1.1.1.1.1.1.1.1.1.1.1.1.1.1.1.1.1

      start : Went denied R W sp m 2 r (Operands (base + 4) sp x y (bit_xor x y) q)
      start =
          let p = moved m lo hi _ _ quotient_code (sym pc) placed in
          let place : r 0 + 2 + 2 ≡ base + 4 = omega arith in
          record {
            steps = 2;
            within = omega arith;
            end = _;
            runs =
                steady_sets denied R W m lo hi own sp 1 _ _ _ Mov false (Reg 12) (ToReg 11) _ _ _ g p.0 in_register to_register refl tt tt refl (at_most stack)
                (steady_sets denied R W m lo hi own sp 0 _ _ _ Xor false (Reg 13) (ToReg 11) _ _ _ g p.1.0 in_register to_register refl tt tt refl (at_most stack) refl);
            so = record { place = place; stack = stack; number = first; divisor = second; sign_is = ap (λ (k : ℕ). bit_xor k (r 13)) first ∙ ap (λ (k : ℕ). bit_xor x k) second; kept = (new_flags _ _ _ _ _ _ kept.0, kept.1) };
          }

  -- ---- the remainder

  abbrev Remainder : ℕ → ℕ → ℕ → (ℕ → ℕ) → Type 0
  Remainder pc x y t = (v : ℕ) × (magnitude y ≢ 0 → v ≡ magnitude x % magnitude y) × AtReturn pc sp (turned_if x v) always_kept q t

  pub remainder : (base x y : ℕ) (r : ℕ → ℕ) → Placed m lo hi base remainder_code → x < 65536 → y < 65536 → r 0 ≡ base → r 1 ≡ sp → r 12 ≡ x → r 13 ≡ y → IsKept always_kept q r → Went denied R W sp m 160 r (Remainder (base + 52) x y)
  remainder base x y r placed lx ly pc stack first second kept =
      then_went denied R W sp m 1 159 r _ _ start (λ t a.
      then_went denied R W sp m 154 5 t _ _ (halfway (base + 2) x y x t rest_part p2 lx ly a) (λ u b.
      then_went denied R W sp m 1 4 u _ _ (takes u b.rest (b.place ∙ e42) b.stack b.rest_is b.sign_is b.kept) (λ v c.
      let w = signs (base + 44) b.rest x v p44 lx c in
      record { steps = w.steps; within = w.within; end = w.end; runs = w.runs; so = (b.rest, λ d. (b.so d).1, record { place = w.so.place ∙ e52; stack = w.so.stack; answers = w.so.answers; kept = w.so.kept }) })))
    where
      e42 : base + 2 + 8 + 8 + 24 ≡ base + 42
      e42 = omega arith

      e52 : base + 44 + 8 ≡ base + 52
      e52 = omega arith

      p2 : Placed m lo hi (base + 2) (number_part rest_part)
      p2 = placed.1

      p42 : Placed m lo hi (base + 42) rest_part
      p42 = let e : base + 2 + 2 + 2 + 2 + 2 + 2 + 2 + 2 + 2 + 2 + 4 + 2 + 2 + 2 + 2 + 2 + 2 + 2 + 2 + 2 ≡ base + 42 = omega arith in moved m lo hi _ _ rest_part e p2.1.1.1.1.1.1.1.1.1.1.1.1.1.1.1.1.1.1.1

      p44 : Placed m lo hi (base + 44) sign_part
      p44 = let e : base + 42 + 2 ≡ base + 44 = omega arith in moved m lo hi _ _ sign_part e p42.1

      start : Went denied R W sp m 1 r (Operands (base + 2) sp x y x q)
      start =
          let p = moved m lo hi _ _ remainder_code (sym pc) placed in
          let place : r 0 + 2 ≡ base + 2 = omega arith in
          record {
            steps = 1;
            within = omega arith;
            end = _;
            runs = steady_sets denied R W m lo hi own sp 0 _ _ _ Mov false (Reg 12) (ToReg 11) _ _ _ g p.0 in_register to_register refl tt tt refl (at_most stack) refl;
            so = record { place = place; stack = stack; number = first; divisor = second; sign_is = first; kept = kept };
          }

      takes : (t : ℕ → ℕ) (rest : ℕ) → t 0 ≡ base + 42 → t 1 ≡ sp → t 14 ≡ rest → t 11 ≡ x → IsKept always_kept q t → Went denied R W sp m 1 t (Unsigned (base + 44) sp rest x q)
      takes t rest at stack2 rest_is sign_is kept2 =
          let p = moved m lo hi _ _ rest_part (sym at) p42 in
          let place : t 0 + 2 ≡ base + 44 = omega arith in
          record {
            steps = 1;
            within = omega arith;
            end = _;
            runs = steady_sets denied R W m lo hi own sp 0 _ _ _ Mov false (Reg 14) (ToReg 12) _ _ _ g p.0 in_register to_register refl tt tt refl (at_most stack2) refl;
            so = record { place = place; stack = stack2; result_is = rest_is; sign_is = sign_is; kept = kept2 };
          }

-- ---- the routines

some_magnitude : (y : ℕ) → y < 65536 → y ≢ 0 → magnitude y ≢ 0
some_magnitude y l n = let e = magnitude_some y l n in omega arith

quotient_goes : (denied : ℕ → Bool) (base x y : ℕ) (s : State) → IsCall denied (words_of_code quotient_code) base x y s → (v : ℕ) × (magnitude y ≢ 0 → v ≡ magnitude x / magnitude y) × Answers Sdiv16 denied (words_of_code quotient_code) base (turned_if (bit_xor x y) v) s
quotient_goes denied base x y s h =
    let high = h.base_high in
    let placed = places s.memory base (base + 54) (omega arith) quotient_code base h.words refl h.base_even (omega arith) (omega arith) in
    let w = quotient denied (RoutineReads base 54 (s.regs 1)) (RoutineWrites (s.regs 1)) base (base + 54) (owns base 54 (s.regs 1)) (s.regs 1) s.regs s.memory base x y s.regs placed h.first_word h.second_word h.place refl h.first h.second (kept_self always_kept s.regs) in
    let e : base + 2 + 2 + 2 + 2 + 2 + 2 + 2 + 2 + 2 + 2 + 2 + 4 + 2 + 2 + 2 + 2 + 2 + 2 + 2 + 2 + 2 + 2 + 2 + 2 + 2 ≡ base + 52 = omega arith in
    let back = moved s.memory base (base + 54) _ _ return_part e placed.1.1.1.1.1.1.1.1.1.1.1.1.1.1.1.1.1.1.1.1.1.1.1.1.1 in
    (w.so.0, w.so.1, comes_back denied base 54 (base + 52) 160 _ always_kept s (λ r a b c k. k) h.stack_even (omega arith) back.0 (record { steps = w.steps; within = w.within; end = w.end; runs = w.runs; so = w.so.2 }))

pub quotient_returns : Returns Sdiv16 (words_of_code quotient_code)
quotient_returns denied base x y s h = let z = quotient_goes denied base x y s h in (turned_if (bit_xor x y) z.0, z.2)

pub quotient_answers : Computes Sdiv16 (words_of_code quotient_code)
quotient_answers denied base x y s h d =
    let z = quotient_goes denied base x y s h in
    let e = ap (λ (k : ℕ). turned_if (bit_xor x y) k) (z.1 (some_magnitude y h.second_word d)) ∙ quotient_is x y h.first_word h.second_word in
    subst (λ (k : ℕ). Answers Sdiv16 denied (words_of_code quotient_code) base k s) e z.2

remainder_goes : (denied : ℕ → Bool) (base x y : ℕ) (s : State) → IsCall denied (words_of_code remainder_code) base x y s → (v : ℕ) × (magnitude y ≢ 0 → v ≡ magnitude x % magnitude y) × Answers Smod16 denied (words_of_code remainder_code) base (turned_if x v) s
remainder_goes denied base x y s h =
    let high = h.base_high in
    let placed = places s.memory base (base + 54) (omega arith) remainder_code base h.words refl h.base_even (omega arith) (omega arith) in
    let w = remainder denied (RoutineReads base 54 (s.regs 1)) (RoutineWrites (s.regs 1)) base (base + 54) (owns base 54 (s.regs 1)) (s.regs 1) s.regs s.memory base x y s.regs placed h.first_word h.second_word h.place refl h.first h.second (kept_self always_kept s.regs) in
    let e : base + 2 + 2 + 2 + 2 + 2 + 2 + 2 + 2 + 2 + 2 + 4 + 2 + 2 + 2 + 2 + 2 + 2 + 2 + 2 + 2 + 2 + 2 + 2 + 2 + 2 ≡ base + 52 = omega arith in
    let back = moved s.memory base (base + 54) _ _ return_part e placed.1.1.1.1.1.1.1.1.1.1.1.1.1.1.1.1.1.1.1.1.1.1.1.1.1 in
    (w.so.0, w.so.1, comes_back denied base 54 (base + 52) 160 _ always_kept s (λ r a b c k. k) h.stack_even (omega arith) back.0 (record { steps = w.steps; within = w.within; end = w.end; runs = w.runs; so = w.so.2 }))

pub remainder_returns : Returns Smod16 (words_of_code remainder_code)
remainder_returns denied base x y s h = let z = remainder_goes denied base x y s h in (turned_if x z.0, z.2)

pub remainder_answers : Computes Smod16 (words_of_code remainder_code)
remainder_answers denied base x y s h d =
    let z = remainder_goes denied base x y s h in
    let e = ap (λ (k : ℕ). turned_if x k) (z.1 (some_magnitude y h.second_word d)) ∙ remainder_is x y h.first_word h.second_word in
    subst (λ (k : ℕ). Answers Smod16 denied (words_of_code remainder_code) base k s) e z.2
