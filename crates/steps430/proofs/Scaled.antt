-- A number of elements becomes their bytes: nothing is done for one byte, an addition for two, and else a product.
use Rattle.std.proofs.Common.{◌≡◌, ℕ, zero, suc, ◌+◌, ◌-◌, ◌*◌, ◌/◌, ◌%◌, ◌<◌, ◌≤◌, refl, sym, ap, ◌∙◌, subst, arith, Bool, true, false, List, [], ◌∷◌, ◌++◌, if◌then◌else◌}
use Rattle.std.proofs.lemmas.Bool.{eqb-true}
use Rattle.std.proofs.lemmas.List.{append_assoc}
use Rattle.std.proofs.lemmas.Nat.{and_mask}
use Rattle.std.specs.Int.Bits.{xor_add_and}
use Rattle.std.specs.Prelude.{ℤ, pos, negsuc, neg_ℤ, ◌*ℤ◌, nat_eq, ◌||◌, bit_and, bit_xor}
use Rattle.base16.specs.Board.{segment_start}
use Rattle.base16.specs.Integer.{wrapped}
use Rattle.isa430.specs.declared.instr.TwoOp.TheVariants.{Mov, Add, Xor}
use Rattle.isa430.specs.declared.instr.Gen.TheVariants.{One as ConstantOne, MinusOne}
use Rattle.isa430.specs.declared.instr.Src.TheVariants.{Reg, Constant}
use Rattle.isa430.specs.declared.instr.Dst.TheVariants.{Reg as ToReg}
use Rattle.isa430.specs.declared.instr.Instr.TheVariants.{Two}
use Rattle.isa430.specs.Table.{size_of}
use Rattle.core430.specs.declared.operand.Place.TheVariants.{InRegister, Given}
use Rattle.core430.specs.Registers.{set_reg}
use Rattle.core430.specs.Instructions.{two_status, flagged}
use Rattle.run430.proofs.Operands.{in_register, to_register, constant as generated}
use Rattle.run430.specs.Routine.{IsKept}
use Rattle.rt430.specs.declared.words.Helper.{Helper}
use Rattle.rt430.specs.declared.words.Helper.TheVariants.{Mul16, Udiv16, Umod16, Sdiv16, Smod16, Shl, Shr, Sar}
use Rattle.rt430.specs.Routines.{kept_by}
use Rattle.ideal430.specs.Ideal.{Ideal, Meter}
use Rattle.ideal430.specs.Settled.{Bytes}
use Rattle.c_values.specs.Pointers.{scaled as scaled_number}
use Rattle.c_values.specs.declared.state.State.{State}
use Rattle.cells430.specs.Cells.{Cells}
use Rattle.cells430.specs.Stretch.{Course, at, Leads}
use Rattle.cells430.proofs.Lift.{sets, leads_weaker}
use Rattle.ir.specs.declared.control.Frame.{Frame}
use Rattle.ir.specs.Table.{is_short}
use Rattle.select430.specs.declared.part.Part.{Part}
use Rattle.select430.specs.declared.part.Part.TheVariants.{Do, Helps}
use Rattle.select430.specs.Code.{constant, two, set, negated, factor, scaled, moved}
use Rattle.steps430.specs.Setting.{Setting, IsLaid}
use Rattle.steps430.specs.Standing.{Stage}
use Rattle.steps430.proofs.Moves.{From, from_do, with_regs}
use Rattle.steps430.proofs.Values.{number_is, brings_number}
use Rattle.steps430.proofs.Words.{wrapped_small}
use Rattle.steps430.proofs.Products.{wrapped_product}
use Rattle.steps430.proofs.Routines.{from_helps, helps_with}

-- ---- words

wrapped_negated : (z : ℤ) → wrapped (neg_ℤ z) ≡ (65536 - wrapped z) % 65536
wrapped_negated (pos zero) = refl
wrapped_negated (pos (suc n)) = omega arith
wrapped_negated (negsuc n) = omega arith

once_word : (z : ℤ) → wrapped (z *ℤ pos 1) ≡ wrapped z
once_word z = let e = wrapped_product z (pos 1) in let small = wrapped_small z in omega arith

twice_word : (z : ℤ) → wrapped (z *ℤ pos 2) ≡ (wrapped z + wrapped z + 0) % 65536
twice_word z = let e = wrapped_product z (pos 2) in omega arith

-- a factor that is turned turns the product
turned_factor : (a b c : ℕ) → b < 65536 → c ≡ (65536 - b) % 65536 → (a * c) % 65536 ≡ (65536 - (a * b) % 65536) % 65536
turned_factor a b c small e =
    let k : ℕ = (c + b) / 65536 in
    let whole : c + b ≡ 65536 * k = omega arith in
    let spread : a * (c + b) ≡ a * (65536 * k) = ap (λ (z : ℕ). a * z) whole in
    let same : a * c + a * b ≡ 65536 * (a * k) = omega (arith, spread) in
    omega (arith, same)

factor_word : (minus : Bool) (z : ℤ) (size : ℕ)
    → (wrapped z * wrapped (pos (wrapped (factor minus size)))) % 65536 ≡ wrapped (scaled_number minus z size)
factor_word false z size =
    let small = wrapped_small (pos size) in
    let same : wrapped (pos (wrapped (pos size))) ≡ wrapped (pos size) = omega arith in
    ap (λ (w : ℕ). (wrapped z * w) % 65536) same ∙ sym (wrapped_product z (pos size))
factor_word true z size =
    let small = wrapped_small (neg_ℤ (pos size)) in
    let same : wrapped (pos (wrapped (neg_ℤ (pos size)))) ≡ wrapped (neg_ℤ (pos size)) = omega arith in
    ap (λ (w : ℕ). (wrapped z * w) % 65536) same
    ∙ turned_factor (wrapped z) (wrapped (pos size)) (wrapped (neg_ℤ (pos size))) (wrapped_small (pos size))
    (wrapped_negated (pos size))
    ∙ ap (λ (w : ℕ). (65536 - w) % 65536) (sym (wrapped_product z (pos size)))
    ∙ sym (wrapped_negated (z *ℤ pos size))

-- every bit turned, and one more
turned_word : (v : ℕ) → v < 65536 → (bit_xor v 65535 + 1 + 0) % 65536 ≡ (65536 - v) % 65536
turned_word v l =
    let a : bit_xor v 65535 + bit_and v 65535 * 2 ≡ v + 65535 = xor_add_and v 65535 in
    let b : bit_and v 65535 ≡ v % 65536 = and_mask v 16 in
    omega arith

-- ---- code

-- two registers are as they were, in which an update keeps what it needs
pub record Spares (r r2 : ℕ → ℕ) : Type 0 where
  pub nine : r2 9 ≡ r 9
  pub ten : r2 10 ≡ r 10

pub spares_both : (r r1 r2 : ℕ → ℕ) → Spares r r1 → Spares r1 r2 → Spares r r2
spares_both r r1 r2 h k = record { nine = k.nine ∙ h.nine; ten = k.ten ∙ h.ten }

-- and so they are behind each routine
pub helps_spares : (which : Helper) (r r2 : ℕ → ℕ) → IsKept (kept_by which) r r2 → Spares r r2
helps_spares Mul16 r r2 h = let k = h.1 in record { nine = k.1.1.1.1.1.1.1.1.0; ten = k.1.1.1.1.1.1.1.1.1.0 }
helps_spares Udiv16 r r2 h = let k = h.1 in record { nine = k.1.1.1.1.1.1.1.1.0; ten = k.1.1.1.1.1.1.1.1.1.0 }
helps_spares Umod16 r r2 h = let k = h.1 in record { nine = k.1.1.1.1.1.1.1.1.0; ten = k.1.1.1.1.1.1.1.1.1.0 }
helps_spares Sdiv16 r r2 h = let k = h.1 in record { nine = k.1.1.1.1.1.1.0; ten = k.1.1.1.1.1.1.1.0 }
helps_spares Smod16 r r2 h = let k = h.1 in record { nine = k.1.1.1.1.1.1.0; ten = k.1.1.1.1.1.1.1.0 }
helps_spares Shl r r2 h = let k = h.1 in record { nine = k.1.1.1.1.1.1.1.1.1.0; ten = k.1.1.1.1.1.1.1.1.1.1.0 }
helps_spares Shr r r2 h = let k = h.1 in record { nine = k.1.1.1.1.1.1.1.1.1.0; ten = k.1.1.1.1.1.1.1.1.1.1.0 }
helps_spares Sar r r2 h = let k = h.1 in record { nine = k.1.1.1.1.1.1.1.1.1.0; ten = k.1.1.1.1.1.1.1.1.1.1.0 }

scaled_is : (minus : Bool) (size : ℕ) → is_short size ≡ false
    → scaled minus size ≡ set (pos (wrapped (factor minus size))) 13 ∷ Helps Mul16 ∷ []
scaled_is minus size e =
    ap (λ (b : Bool). if b then (if nat_eq size 2 then two Add 12 12 ∷ [] else []) ++ (if minus then negated else [])
    else set (pos (wrapped (factor minus size))) 13 ∷ Helps Mul16 ∷ []) e

-- how many instructions it takes
abbrev pub scaling : Bool → ℕ → ℕ
scaling minus size = if is_short size then (if nat_eq size 2 then 1 else 0) + (if minus then 2 else 0) else 402

module _ (p : Setting) (lay : IsLaid p) (Q : Ideal → Type 0) (s : State) (next : ℕ) (frames : List Frame) (all own : Cells)
    (segment base sp : ℕ) (ps : ℕ → ℕ) (x : Course) (f end : ℕ) (more : List Part) where
  -- what comes then, where R12 has a word, and R15 its own yet
  abbrev pub Becomes : (n : ℕ) (r : ℕ → ℕ) (word : ℕ) → Type 0
  Becomes n r word =
      (r2 m2 : ℕ → ℕ) (st2 : Bytes) (y2 : Meter) → r2 12 ≡ word → r2 15 ≡ r 15 → Spares r r2 → From p f (r2 0) more end
      → Stage p s next frames all own segment base sp ps r2 m2 st2 → Leads n (at segment ps r2 m2 st2 x y2) Q

module _ (p : Setting) (lay : IsLaid p) (Q : Ideal → Type 0) (s : State) (next : ℕ) (frames : List Frame) (all own : Cells)
    (segment base sp : ℕ) (ps : ℕ → ℕ) (x : Course) (f end : ℕ) where
  doubles : (more : List Part) (n : ℕ) (r m : ℕ → ℕ) (st : Bytes) (y : Meter)
      → Stage p s next frames all own segment base sp ps r m st → From p f (r 0) (two Add 12 12 ∷ more) end
      → Becomes p lay Q s next frames all own segment base sp ps x f end more n r ((r 12 + r 12 + 0) % 65536)
      → Leads (suc n) (at segment ps r m st x y) Q
  doubles more n r m st y h code go =
      let c = from_do p f (r 0) (Two Add false (Reg 12) (ToReg 12)) more end code in
      let r2 : ℕ → ℕ = set_reg (flagged (set_reg r 0 (r 0 + 2)) (two_status Add false (r 2) (r 12) (r 12))) 12
      ((r 12 + r 12 + 0) % 65536) in
      sets p.code p.low p.high segment sp ps h.ground Q n all h.shape r m st x y Add false (Reg 12) (ToReg 12) (InRegister 12)
      (InRegister 12) r2 h.facts h.words c.0 in_register to_register refl tt tt refl h.stack
      (λ st2 y2 facts wide. go r2 m st2 y2 refl refl (record { nine = refl; ten = refl }) c.1
      (with_regs p s next all own segment base sp ps frames r m r2 st st2 h.stack wide facts h))

  -- R15 is added to R12
  adds : (more : List Part) (n : ℕ) (r m : ℕ → ℕ) (st : Bytes) (y : Meter)
      → Stage p s next frames all own segment base sp ps r m st → From p f (r 0) (two Add 15 12 ∷ more) end
      → Becomes p lay Q s next frames all own segment base sp ps x f end more n r ((r 12 + r 15 + 0) % 65536)
      → Leads (suc n) (at segment ps r m st x y) Q
  adds more n r m st y h code go =
      let c = from_do p f (r 0) (Two Add false (Reg 15) (ToReg 12)) more end code in
      let r2 : ℕ → ℕ = set_reg (flagged (set_reg r 0 (r 0 + 2)) (two_status Add false (r 2) (r 12) (r 15))) 12
      ((r 12 + r 15 + 0) % 65536) in
      sets p.code p.low p.high segment sp ps h.ground Q n all h.shape r m st x y Add false (Reg 15) (ToReg 12) (InRegister 15)
      (InRegister 12) r2 h.facts h.words c.0 in_register to_register refl tt tt refl h.stack
      (λ st2 y2 facts wide. go r2 m st2 y2 refl refl (record { nine = refl; ten = refl }) c.1
      (with_regs p s next all own segment base sp ps frames r m r2 st st2 h.stack wide facts h))

  pub negates : (more : List Part) (n : ℕ) (r m : ℕ → ℕ) (st : Bytes) (y : Meter)
      → Stage p s next frames all own segment base sp ps r m st → From p f (r 0) (negated ++ more) end
      → Becomes p lay Q s next frames all own segment base sp ps x f end more n r ((65536 - r 12) % 65536)
      → Leads (suc (suc n)) (at segment ps r m st x y) Q
  negates more n r m st y h code go =
      let c = from_do p f (r 0) (Two Xor false (Constant MinusOne) (ToReg 12))
      (Do (Two Add false (Constant ConstantOne) (ToReg 12)) ∷ more)
      end code in
      let r1 : ℕ → ℕ = set_reg (flagged (set_reg r 0 (r 0 + 2)) (two_status Xor false (r 2) (r 12) 65535)) 12
      (bit_xor (r 12) 65535) in
      let d = from_do p f (r 0 + 2) (Two Add false (Constant ConstantOne) (ToReg 12)) more end c.1 in
      let r2 : ℕ → ℕ = set_reg (flagged (set_reg r1 0 (r 0 + 2 + 2)) (two_status Add false (r1 2) (r1 12) 1)) 12
      ((bit_xor (r 12) 65535 + 1 + 0) % 65536) in
      sets p.code p.low p.high segment sp ps h.ground Q (suc n) all h.shape r m st x y Xor false (Constant MinusOne) (ToReg 12)
      (Given 65535) (InRegister 12) r1 h.facts h.words c.0 generated to_register refl tt tt refl h.stack
      (λ st2 y2 facts wide.
      sets p.code p.low p.high segment sp ps h.ground Q n all h.shape r1 m st2 x y2 Add false (Constant ConstantOne) (ToReg 12)
      (Given 1) (InRegister 12) r2 facts wide d.0 generated to_register refl tt tt refl h.stack
      (λ st3 y3 facts2 wide2.
      go r2 m st3 y3 (turned_word (r 12) (h.words 12)) refl (record { nine = refl; ten = refl }) d.1
      (with_regs p s next all own segment base sp ps frames r m r2 st st3 h.stack wide2 facts2 h)))

  multiplies : (more : List Part) (n : ℕ) (r m : ℕ → ℕ) (st : Bytes) (y : Meter) (w : ℕ) → segment_start segment + 4 ≤ sp
      → Stage p s next frames all own segment base sp ps r m st → From p f (r 0) (set (pos w) 13 ∷ Helps Mul16 ∷ more) end
      → Becomes p lay Q s next frames all own segment base sp ps x f end more n r ((r 12 * wrapped (pos w)) % 65536)
      → Leads (suc (suc (400 + n))) (at segment ps r m st x y) Q
  multiplies more n r m st y w low h code go =
      let c = from_do p f (r 0) (Two Mov false (constant (pos w)) (ToReg 13)) (Helps Mul16 ∷ more) end code in
      let pc : ℕ = r 0 + size_of (Two Mov false (constant (pos w)) (ToReg 13)) in
      let r1 : ℕ → ℕ = set_reg (set_reg r 0 pc) 13 (wrapped (pos w)) in
      let d = from_helps p f pc Mul16 more end c.1 in
      brings_number p Q (suc (400 + n)) s next frames all own segment base sp ps r m st x y (constant (pos w)) 13
      (wrapped (pos w)) h
      (number_is (pos w)) c.0 (omega arith) (λ st2 y2 stage2.
      helps_with p lay Q n s next frames all own segment base sp ps r1 m st2 x y2 Mul16 f (r 12) (wrapped (pos w)) stage2 low
      d.0 refl refl tt
      (λ r2 m2 st3 y3 at_pc in_r12 same stage3.
      let k = same.1 in
      go r2 m2 st3 y3 in_r12 k.1.0
      (record { nine = k.1.1.1.1.1.1.1.1.0; ten = k.1.1.1.1.1.1.1.1.1.0 })
      (subst (λ (z : ℕ). From p f z more end) (sym at_pc) d.1) stage3))

  -- the cases
  by_one : (minus : Bool) (z : ℤ) (more : List Part) (n : ℕ) (r m : ℕ → ℕ) (st : Bytes) (y : Meter)
      → Stage p s next frames all own segment base sp ps r m st → r 12 ≡ wrapped z → From p f (r 0) (scaled minus 1 ++ more) end
      → Becomes p lay Q s next frames all own segment base sp ps x f end more n r (wrapped (scaled_number minus z 1))
      → Leads (scaling minus 1 + n) (at segment ps r m st x y) Q
  by_one false z more n r m st y h is code go =
      leads_weaker n (scaling false 1 + n) _ Q Q (omega arith) (λ u k. k)
      (go r m st y (is ∙ sym (once_word z)) refl (record { nine = refl; ten = refl }) code h)
  by_one true z more n r m st y h is code go =
      leads_weaker (suc (suc n)) (scaling true 1 + n) _ Q Q (omega arith) (λ u k. k)
      (negates more n r m st y h code (λ r2 m2 st2 y2 in_r12 same spares code2 stage2.
      go r2 m2 st2 y2 (in_r12 ∙ ap (λ (w : ℕ). (65536 - w) % 65536) (is ∙ sym (once_word z)) ∙ sym (wrapped_negated (z *ℤ pos 1)))
      same spares code2 stage2))

  by_two : (minus : Bool) (z : ℤ) (more : List Part) (n : ℕ) (r m : ℕ → ℕ) (st : Bytes) (y : Meter)
      → Stage p s next frames all own segment base sp ps r m st → r 12 ≡ wrapped z → From p f (r 0) (scaled minus 2 ++ more) end
      → Becomes p lay Q s next frames all own segment base sp ps x f end more n r (wrapped (scaled_number minus z 2))
      → Leads (scaling minus 2 + n) (at segment ps r m st x y) Q
  by_two false z more n r m st y h is code go =
      leads_weaker (suc n) (scaling false 2 + n) _ Q Q (omega arith) (λ u k. k)
      (doubles more n r m st y h code (λ r2 m2 st2 y2 in_r12 same spares code2 stage2.
      go r2 m2 st2 y2 (in_r12 ∙ ap (λ (w : ℕ). (w + w + 0) % 65536) is ∙ sym (twice_word z)) same spares code2 stage2))
  by_two true z more n r m st y h is code go =
      leads_weaker (suc (suc (suc n))) (scaling true 2 + n) _ Q Q (omega arith) (λ u k. k)
      (doubles (negated ++ more) (suc (suc n)) r m st y h code (λ r1 m1 st1 y1 in_r12 same spares code1 stage1.
      let twice : r1 12 ≡ wrapped (z *ℤ pos 2) = in_r12 ∙ ap (λ (w : ℕ). (w + w + 0) % 65536) is ∙ sym (twice_word z) in
      negates more n r1 m1 st1 y1 stage1 code1 (λ r2 m2 st2 y2 in_r12b same2 spares2 code2 stage2.
      go r2 m2 st2 y2 (in_r12b ∙ ap (λ (w : ℕ). (65536 - w) % 65536) twice ∙ sym (wrapped_negated (z *ℤ pos 2)))
      (same2 ∙ same) (spares_both r r1 r2 spares spares2) code2 stage2)))

  by_product : (minus : Bool) (size : ℕ) (z : ℤ) (more : List Part) (n : ℕ) (r m : ℕ → ℕ) (st : Bytes) (y : Meter)
      → is_short size ≡ false → segment_start segment + 4 ≤ sp → Stage p s next frames all own segment base sp ps r m st
      → r 12 ≡ wrapped z → From p f (r 0) (scaled minus size ++ more) end
      → Becomes p lay Q s next frames all own segment base sp ps x f end more n r (wrapped (scaled_number minus z size))
      → Leads (scaling minus size + n) (at segment ps r m st x y) Q
  by_product minus size z more n r m st y long low h is code go =
      let many : scaling minus size ≡ 402 =
      ap (λ (b : Bool). if b then (if nat_eq size 2 then 1 else 0) + (if minus then 2 else 0) else 402) long in
      leads_weaker (suc (suc (400 + n))) (scaling minus size + n) _ Q Q (omega (arith, many)) (λ u k. k)
      (multiplies more n r m st y (wrapped (factor minus size)) low h
      (subst (λ (parts : List Part). From p f (r 0) (parts ++ more) end) (scaled_is minus size long) code)
      (λ r2 m2 st2 y2 in_r12 same spares code2 stage2.
      go r2 m2 st2 y2
      (in_r12 ∙ ap (λ (w : ℕ). (w * wrapped (pos (wrapped (factor minus size)))) % 65536) is ∙ factor_word minus z size)
      same spares code2 stage2))

  -- R12, a number of elements, becomes their bytes, or the negative of them
  pub scales : (minus : Bool) (size : ℕ) (z : ℤ) (more : List Part) (n : ℕ) (r m : ℕ → ℕ) (st : Bytes) (y : Meter)
      → segment_start segment + 4 ≤ sp → Stage p s next frames all own segment base sp ps r m st
      → r 12 ≡ wrapped z → From p f (r 0) (scaled minus size ++ more) end
      → Becomes p lay Q s next frames all own segment base sp ps x f end more n r (wrapped (scaled_number minus z size))
      → Leads (scaling minus size + n) (at segment ps r m st x y) Q
  scales minus size z more n r m st y low h is code go = from (nat_eq size 1) (nat_eq size 2) refl refl
    where
      Result : ℕ → Type 0
      Result k =
          From p f (r 0) (scaled minus k ++ more) end
          → Becomes p lay Q s next frames all own segment base sp ps x f end more n r (wrapped (scaled_number minus z k))
          → Leads (scaling minus k + n) (at segment ps r m st x y) Q

      from : (b c : Bool) → nat_eq size 1 ≡ b → nat_eq size 2 ≡ c → Leads (scaling minus size + n) (at segment ps r m st x y) Q
      from true c e k =
          subst Result (sym (eqb-true size 1 e)) (λ code1 go1. by_one minus z more n r m st y h is code1 go1) code go
      from false true e k =
          subst Result (sym (eqb-true size 2 k)) (λ code1 go1. by_two minus z more n r m st y h is code1 go1) code go
      from false false e k =
          by_product minus size z more n r m st y (ap (λ (b : Bool). b || nat_eq size 2) e ∙ k) low h is code go

  -- R12 becomes the sum of R15 and so many bytes
  pub moves : (minus : Bool) (size : ℕ) (z : ℤ) (more : List Part) (n : ℕ) (r m : ℕ → ℕ) (st : Bytes) (y : Meter)
      → segment_start segment + 4 ≤ sp → Stage p s next frames all own segment base sp ps r m st
      → r 12 ≡ wrapped z → From p f (r 0) (moved minus size ++ more) end
      → Becomes p lay Q s next frames all own segment base sp ps x f end more n r
      ((wrapped (scaled_number minus z size) + r 15 + 0) % 65536)
      → Leads (scaling minus size + suc n) (at segment ps r m st x y) Q
  moves minus size z more n r m st y low h is code go =
      scales minus size z (two Add 15 12 ∷ more) (suc n) r m st y low h is
      (subst (λ (parts : List Part). From p f (r 0) parts end) (append_assoc (scaled minus size) (two Add 15 12 ∷ []) more) code)
      (λ r1 m1 st1 y1 in_r12 same spares code1 stage1.
      adds more n r1 m1 st1 y1 stage1 code1 (λ r2 m2 st2 y2 in_r12b same2 spares2 code2 stage2.
      go r2 m2 st2 y2
      (in_r12b ∙ ap (λ (w : ℕ). (w + r1 15 + 0) % 65536) in_r12
      ∙ ap (λ (w : ℕ). (wrapped (scaled_number minus z size) + w + 0) % 65536) same)
      (same2 ∙ same) (spares_both r r1 r2 spares spares2) code2 stage2))
