-- Values come into registers: temporaries, constants, null and scalars.
use Rattle.std.proofs.Common.{◌≡◌, ◌≢◌, ℕ, suc, ◌+◌, ◌≤◌, refl, sym, ap, ◌∙◌, subst, arith, Bool, true, false, not, List, Option, Some, if◌then◌else◌}
use Rattle.std.proofs.lemmas.Bool.{ne_eqb, eqb-true}
use Rattle.std.specs.Prelude.{ℤ, pos, negsuc, nat_eq}
use Rattle.base16.specs.Integer.{wrapped}
use Rattle.base16.specs.declared.image.Kind.{Kind}
use Rattle.base16.specs.declared.image.Kind.TheVariants as kind
use Rattle.isa430.specs.declared.instr.TwoOp.TheVariants.{Mov}
use Rattle.isa430.specs.declared.instr.Gen.{Gen}
use Rattle.isa430.specs.declared.instr.Gen.TheVariants.{Zero, One as ConstantOne, Two as ConstantTwo, Four, Eight, MinusOne}
use Rattle.isa430.specs.declared.instr.Src.{Src}
use Rattle.isa430.specs.declared.instr.Src.TheVariants.{Immediate, Constant}
use Rattle.isa430.specs.declared.instr.Dst.TheVariants.{Reg as ToReg}
use Rattle.isa430.specs.declared.instr.Instr.TheVariants.{Two}
use Rattle.isa430.specs.Table.{size_of}
use Rattle.core430.specs.declared.operand.Place.TheVariants.{InRegister, InMemory, Given}
use Rattle.core430.specs.Operands.{constant_of}
use Rattle.core430.specs.Registers.{set_reg}
use Rattle.core430.specs.Instructions.{Sets}
use Rattle.run430.specs.Code.{Here}
use Rattle.run430.proofs.Rules.{Source, next as next_regs, two_at}
use Rattle.run430.proofs.Operands.{to_register, byte_to_register, given, constant as generated}
use Rattle.ideal430.specs.Ideal.{Ideal, Meter}
use Rattle.ideal430.specs.Settled.{Bytes}
use Rattle.c_values.specs.declared.state.State.{State}
use Rattle.cells430.specs.Cells.{Cells}
use Rattle.cells430.specs.Stretch.{Course, at, Leads}
use Rattle.cells430.proofs.Lift.{two_given, sets, loads, loads_byte}
use Rattle.ir.specs.declared.control.Frame.{Frame}
use Rattle.matching.specs.Covering.{cell_by, cell_of}
use Rattle.select430.specs.Code.{constant, is_char}
use Rattle.steps430.specs.Setting.{Setting}
use Rattle.steps430.specs.Standing.{Stage}
use Rattle.steps430.proofs.Moves.{with_regs}

-- ---- numbers

-- a source is a word by itself
pub data IsNumber : Src → ℕ → Type 0 where
  Own : {w : ℕ} → IsNumber (Immediate w) w
  Generated : (g : Gen) → IsNumber (Constant g) (constant_of g)

number_from : (n : ℕ) (b0 b1 b2 b4 b8 : Bool) → nat_eq n 0 ≡ b0 → nat_eq n 1 ≡ b1 → nat_eq n 2 ≡ b2 → nat_eq n 4 ≡ b4
    → nat_eq n 8 ≡ b8
    → IsNumber (constant (pos n)) (wrapped (pos n))
number_from n true b1 b2 b4 b8 e0 e1 e2 e4 e8 =
    subst (λ (k : ℕ). IsNumber (constant (pos k)) (wrapped (pos k))) (sym (eqb-true n 0 e0)) (Generated _)
number_from n false true b2 b4 b8 e0 e1 e2 e4 e8 =
    subst (λ (k : ℕ). IsNumber (constant (pos k)) (wrapped (pos k))) (sym (eqb-true n 1 e1)) (Generated _)
number_from n false false true b4 b8 e0 e1 e2 e4 e8 =
    subst (λ (k : ℕ). IsNumber (constant (pos k)) (wrapped (pos k))) (sym (eqb-true n 2 e2)) (Generated _)
number_from n false false false true b8 e0 e1 e2 e4 e8 =
    subst (λ (k : ℕ). IsNumber (constant (pos k)) (wrapped (pos k))) (sym (eqb-true n 4 e4)) (Generated _)
number_from n false false false false true e0 e1 e2 e4 e8 =
    subst (λ (k : ℕ). IsNumber (constant (pos k)) (wrapped (pos k))) (sym (eqb-true n 8 e8)) (Generated _)
number_from n false false false false false e0 e1 e2 e4 e8 =
    subst (λ (x : Src). IsNumber x (wrapped (pos n))) (sym
    (ap (λ (b : Bool). if b then Constant Zero else (if nat_eq n 1 then Constant ConstantOne else
    (if nat_eq n 2 then Constant ConstantTwo else (if nat_eq n 4 then Constant Four else
    (if nat_eq n 8 then Constant Eight else Immediate (wrapped (pos n))))))) e0
    ∙ ap (λ (b : Bool). if b then Constant ConstantOne else (if nat_eq n 2 then Constant ConstantTwo else
    (if nat_eq n 4 then Constant Four else (if nat_eq n 8 then Constant Eight else Immediate (wrapped (pos n)))))) e1
    ∙ ap (λ (b : Bool). if b then Constant ConstantTwo else (if nat_eq n 4 then Constant Four else
    (if nat_eq n 8 then Constant Eight else Immediate (wrapped (pos n))))) e2
    ∙ ap (λ (b : Bool). if b then Constant Four else (if nat_eq n 8 then Constant Eight else Immediate (wrapped (pos n)))) e4
    ∙ ap (λ (b : Bool). if b then Constant Eight else Immediate (wrapped (pos n))) e8)) Own

negative_from : (n : ℕ) (b : Bool) → nat_eq n 0 ≡ b → IsNumber (constant (negsuc n)) (wrapped (negsuc n))
negative_from n true e = subst
    (λ (k : ℕ). IsNumber (constant (negsuc k)) (wrapped (negsuc k))) (sym (eqb-true n 0 e)) (Generated _)
negative_from n false e =
    subst (λ (x : Src). IsNumber x (wrapped (negsuc n))) (sym (ap
    (λ (b : Bool). if b then Constant MinusOne else Immediate (wrapped (negsuc n))) e)) Own

-- the source of a constant
pub number_is : (z : ℤ) → IsNumber (constant z) (wrapped z)
number_is (pos n) = number_from n (nat_eq n 0) (nat_eq n 1) (nat_eq n 2) (nat_eq n 4) (nat_eq n 8) refl refl refl refl refl
number_is (negsuc n) = negative_from n (nat_eq n 0) refl

module _ (p : Setting) (Q : Ideal → Type 0) where
  -- a number comes into a register
  pub brings_number : (n : ℕ) (s : State) (next : ℕ) (frames : List Frame) (all own : Cells) (segment base sp : ℕ)
      (ps r m : ℕ → ℕ)
      (st : Bytes) (x : Course) (y : Meter) (src : Src) (k w : ℕ) → Stage p s next frames all own segment base sp ps r m st
      → IsNumber src w → Here p.code p.low p.high (r 0) (Two Mov false src (ToReg k)) → 4 ≤ k
      → ((st2 : Bytes) (y2 : Meter)
      → Stage p s next frames all own segment base sp ps (set_reg (set_reg r 0 (r 0 + size_of (Two Mov false src
      (ToReg k)))) k w) m st2
      → Leads n (at segment ps (set_reg (set_reg r 0 (r 0 + size_of (Two Mov false src (ToReg k)))) k w) m st2 x y2) Q)
      → Leads (suc n) (at segment ps r m st x y) Q
  brings_number n s next frames all own segment base sp ps r m st x y src k w h Own here four more =
      let n2 : k ≢ 2 = omega arith in
      let n3 : k ≢ 3 = omega arith in
      let n0 : 0 ≢ k = omega arith in
      let n1 : 1 ≢ k = omega arith in
      let r2 : ℕ → ℕ = set_reg (set_reg r 0 (r 0 + 4)) k w in
      let pc : r2 0 ≡ r 0 + 4 = simp (ne_eqb 0 k n0) in
      let stack : r2 1 ≡ sp = simp (ne_eqb 1 k n1) (h.stack) in
      let effect : two_at Mov false (Immediate w) (ToReg k) r m (Given w) (InRegister k) ≡ Sets r2 =
      simp (ne_eqb k 2 n2, ne_eqb k 3 n3) in
      sets p.code p.low p.high segment sp ps h.ground Q n all h.shape r m st x y Mov false (Immediate w) (ToReg k) (Given w)
      (InRegister k) r2 h.facts h.words here given to_register effect tt tt pc stack
      (λ st2 y2 facts wide. more st2 y2 (with_regs p s next all own segment base sp ps frames r m r2 st st2 stack wide facts h))
  brings_number n s next frames all own segment base sp ps r m st x y src k w h (Generated g) here four more =
      let n2 : k ≢ 2 = omega arith in
      let n3 : k ≢ 3 = omega arith in
      let n0 : 0 ≢ k = omega arith in
      let n1 : 1 ≢ k = omega arith in
      let r2 : ℕ → ℕ = set_reg (set_reg r 0 (r 0 + 2)) k (constant_of g) in
      let pc : r2 0 ≡ r 0 + 2 = simp (ne_eqb 0 k n0) in
      let stack : r2 1 ≡ sp = simp (ne_eqb 1 k n1) (h.stack) in
      let effect : two_at Mov false (Constant g) (ToReg k) r m (Given (constant_of g)) (InRegister k) ≡ Sets r2 =
      simp (ne_eqb k 2 n2, ne_eqb k 3 n3) in
      sets p.code p.low p.high segment sp ps h.ground Q n all h.shape r m st x y Mov false (Constant g) (ToReg k) (Given
      (constant_of g))
      (InRegister k) r2 h.facts h.words here generated to_register effect tt tt pc stack
      (λ st2 y2 facts wide. more st2 y2 (with_regs p s next all own segment base sp ps frames r m r2 st st2 stack wide facts h))

  -- what a cell has comes into a register: a word, or a byte
  pub brings_cell : (n : ℕ) (s : State) (next : ℕ) (frames : List Frame) (all own : Cells) (segment base sp : ℕ) (ps r m : ℕ → ℕ)
      (st : Bytes) (x : Course) (y : Meter) (byte : Bool) (src : Src) (a k w : ℕ)
      → Stage p s next frames all own segment base sp ps r m st
      → Here p.code p.low p.high (r 0) (Two Mov byte src (ToReg k)) → 4 ≤ k
      → Source byte (next_regs (Two Mov byte src (ToReg k)) r) src (InMemory a)
      → two_given Mov byte src (ToReg k) r m (InRegister k) w
      ≡ Sets (set_reg (set_reg r 0 (r 0 + size_of (Two Mov byte src (ToReg k)))) k w)
      → all a ≡ Some (cell_by (not byte) (Some w))
      → ((st2 : Bytes) (y2 : Meter)
      → Stage p s next frames all own segment base sp ps (set_reg (set_reg r 0 (r 0 + size_of (Two Mov byte src
      (ToReg k)))) k w) m st2
      → Leads n (at segment ps (set_reg (set_reg r 0 (r 0 + size_of (Two Mov byte src (ToReg k)))) k w) m st2 x y2) Q)
      → Leads (suc n) (at segment ps r m st x y) Q
  brings_cell n s next frames all own segment base sp ps r m st x y false src a k w h here four source effect cell more =
      let n0 : 0 ≢ k = omega arith in
      let n1 : 1 ≢ k = omega arith in
      let r2 : ℕ → ℕ = set_reg (set_reg r 0 (r 0 + size_of (Two Mov false src (ToReg k)))) k w in
      let pc : r2 0 ≡ r 0 + size_of (Two Mov false src (ToReg k)) = simp (ne_eqb 0 k n0) in
      let stack : r2 1 ≡ sp = simp (ne_eqb 1 k n1) (h.stack) in
      loads p.code p.low p.high segment sp ps h.ground Q n all h.shape r m st x y Mov src (ToReg k) a (InRegister k) w r2
      h.facts h.words here source to_register cell effect tt pc stack
      (λ st2 y2 facts wide. more st2 y2 (with_regs p s next all own segment base sp ps frames r m r2 st st2 stack wide facts h))
  brings_cell n s next frames all own segment base sp ps r m st x y true src a k w h here four source effect cell more =
      let n0 : 0 ≢ k = omega arith in
      let n1 : 1 ≢ k = omega arith in
      let r2 : ℕ → ℕ = set_reg (set_reg r 0 (r 0 + size_of (Two Mov true src (ToReg k)))) k w in
      let pc : r2 0 ≡ r 0 + size_of (Two Mov true src (ToReg k)) = simp (ne_eqb 0 k n0) in
      let stack : r2 1 ≡ sp = simp (ne_eqb 1 k n1) (h.stack) in
      loads_byte p.code p.low p.high segment sp ps h.ground Q n all h.shape r m st x y Mov src (ToReg k) a (InRegister k) w r2
      h.facts h.words here source byte_to_register cell effect tt pc stack
      (λ st2 y2 facts wide. more st2 y2 (with_regs p s next all own segment base sp ps frames r m r2 st st2 stack wide facts h))

-- the width of a kind
pub narrow_kind : (k : Kind) (x : Option ℕ) → cell_of k x ≡ cell_by (not (is_char k)) x
narrow_kind kind.Char x = refl
narrow_kind kind.Int x = refl
narrow_kind kind.UInt x = refl
narrow_kind kind.Pointer x = refl
