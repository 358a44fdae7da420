-- Conditions: a comparison sets the flags, and a register becomes 1 where a condition holds, else 0.
use Rattle.std.proofs.Common.{◌≡◌, ℕ, suc, ◌+◌, refl, arith, Bool, true, false, List, ◌++◌, if◌then◌else◌}
use Rattle.std.specs.Prelude.{pos}
use Rattle.isa430.specs.declared.instr.TwoOp.TheVariants.{Mov, Cmp}
use Rattle.isa430.specs.declared.instr.Cond.{Cond}
use Rattle.isa430.specs.declared.instr.Gen.TheVariants.{Zero, One as ConstantOne}
use Rattle.isa430.specs.declared.instr.Src.TheVariants.{Reg, Constant}
use Rattle.isa430.specs.declared.instr.Dst.TheVariants.{Reg as ToReg}
use Rattle.isa430.specs.declared.instr.Instr.TheVariants.{Two}
use Rattle.core430.specs.declared.operand.Place.TheVariants.{InRegister, Given}
use Rattle.core430.specs.Arithmetic.{difference_status}
use Rattle.core430.specs.Registers.{set_reg}
use Rattle.core430.specs.Instructions.{is_taken, jump_target}
use Rattle.run430.specs.Code.{Here}
use Rattle.run430.proofs.Operands.{in_register, to_register, constant as generated}
use Rattle.ideal430.specs.Ideal.{Ideal, Meter}
use Rattle.ideal430.specs.Settled.{Bytes}
use Rattle.c_values.specs.declared.state.State.{State}
use Rattle.cells430.specs.Cells.{Cells}
use Rattle.cells430.specs.Stretch.{Course, at, Leads}
use Rattle.cells430.proofs.Lift.{sets, jumps, leads_weaker}
use Rattle.ir.specs.declared.control.Frame.{Frame}
use Rattle.select430.specs.declared.part.Part.{Part}
use Rattle.select430.specs.Code.{truth_where}
use Rattle.steps430.specs.Setting.{Setting}
use Rattle.steps430.specs.Standing.{Stage}
use Rattle.steps430.proofs.Moves.{From, with_regs}

-- ---- 1 where a condition holds

abbrev pub flag : Bool → ℕ
flag b = if b then 1 else 0

module _ (p : Setting) (Q : Ideal → Type 0) (n : ℕ) (s : State) (next : ℕ) (frames : List Frame) (all own : Cells)
    (segment base sp : ℕ) (ps r m : ℕ → ℕ) (st : Bytes) (x : Course) (y : Meter) where
  pub truth_sets : (f : ℕ) (cond : Cond) (b : Bool) (more : List Part) (end : ℕ)
      → Stage p s next frames all own segment base sp ps r m st → is_taken cond (r 2) ≡ b
      → From p f (r 0) (truth_where cond ++ more) end
      → ((r2 : ℕ → ℕ) (st2 : Bytes) (y2 : Meter) → r2 12 ≡ flag b → From p f (r2 0) more end
      → Stage p s next frames all own segment base sp ps r2 m st2 → Leads n (at segment ps r2 m st2 x y2) Q)
      → Leads (suc (suc (suc n))) (at segment ps r m st x y) Q
  truth_sets f cond true more end h is code go =
      let c = code.code in
      let e = code.size in
      let last = c.1.1.0 in
      let high = last.high in let top = last.top in
      let r1 : ℕ → ℕ = set_reg (set_reg r 0 (r 0 + 2)) 12 1 in
      let a : ℕ = r 0 + 2 + 2 + 2 in
      let r2 : ℕ → ℕ = set_reg r1 0 a in
      let to : jump_target (r1 0 + 2) (pos 1) ≡ a = omega arith in
      sets p.code p.low p.high segment sp ps h.ground Q (suc (suc n)) all h.shape r m st x y Mov false (Constant ConstantOne)
      (ToReg 12)
      (Given 1) (InRegister 12) r1 h.facts h.words c.0 generated to_register refl tt tt refl h.stack (λ st2 y2 facts wide.
      jumps p.code p.low p.high segment sp ps h.ground Q (suc n) all h.shape r1 m st2 x y2 cond
      (pos 1) true a facts wide c.1.0 h.stack
      is to (omega arith) (λ st3 y3 facts2 wide2.
      leads_weaker n (suc n) _ Q Q (omega arith) (λ u k. k)
      (go r2 st3 y3 refl (record { code = c.1.1.1; size = omega arith; helpers = code.helpers.1.1 })
      (with_regs p s next all own segment base sp ps frames r m r2 st st3 h.stack wide2 facts2 h))))
  truth_sets f cond false more end h is code go =
      let c = code.code in
      let e = code.size in
      let last = c.1.1.0 in
      let high = last.high in let top = last.top in
      let r1 : ℕ → ℕ = set_reg (set_reg r 0 (r 0 + 2)) 12 1 in
      let a : ℕ = r 0 + 2 + 2 + 2 in
      let r2 : ℕ → ℕ = set_reg r1 0 (r 0 + 2 + 2) in
      let r3 : ℕ → ℕ = set_reg (set_reg r2 0 (r 0 + 2 + 2 + 2)) 12 0 in
      let to : jump_target (r1 0 + 2) (pos 1) ≡ a = omega arith in
      sets p.code p.low p.high segment sp ps h.ground Q (suc (suc n)) all h.shape r m st x y Mov false (Constant ConstantOne)
      (ToReg 12)
      (Given 1) (InRegister 12) r1 h.facts h.words c.0 generated to_register refl tt tt refl h.stack (λ st2 y2 facts wide.
      jumps p.code p.low p.high segment sp ps h.ground Q (suc n) all h.shape r1 m st2 x y2 cond
      (pos 1) false a facts wide c.1.0 h.stack
      is to (omega arith) (λ st3 y3 facts2 wide2.
      sets p.code p.low p.high segment sp ps h.ground Q n all h.shape r2 m st3 x y3 Mov false (Constant Zero) (ToReg 12)
      (Given 0) (InRegister 12) r3 facts2 wide2 c.1.1.0 generated to_register refl tt tt refl h.stack (λ st4 y4 facts3 wide3.
      go r3 st4 y4 refl (record { code = c.1.1.1; size = omega arith; helpers = code.helpers.1.1 })
      (with_regs p s next all own segment base sp ps frames r m r3 st st4 h.stack wide3 facts3 h))))

  -- R12 is compared with R13, or R13 with R12
  pub compares : Stage p s next frames all own segment base sp ps r m st
      → Here p.code p.low p.high (r 0) (Two Cmp false (Reg 13) (ToReg 12))
      → ((r2 : ℕ → ℕ) (st2 : Bytes) (y2 : Meter) → r2 0 ≡ r 0 + 2 → r2 2 ≡ difference_status false (r 2) false (r 12) (r 13)
      → Stage p s next frames all own segment base sp ps r2 m st2 → Leads n (at segment ps r2 m st2 x y2) Q)
      → Leads (suc n) (at segment ps r m st x y) Q
  compares h here go =
      let r2 : ℕ → ℕ = set_reg (set_reg r 0 (r 0 + 2)) 2 (difference_status false (r 2) false (r 12) (r 13)) in
      sets p.code p.low p.high segment sp ps h.ground Q n all h.shape r m st x y Cmp false (Reg 13) (ToReg 12) (InRegister 13)
      (InRegister 12) r2 h.facts h.words here in_register to_register refl tt tt refl h.stack
      (λ st2 y2 facts wide. go r2 st2 y2 refl refl
      (with_regs p s next all own segment base sp ps frames r m r2 st st2 h.stack wide facts h))

  pub compares_back : Stage p s next frames all own segment base sp ps r m st
      → Here p.code p.low p.high (r 0) (Two Cmp false (Reg 12) (ToReg 13))
      → ((r2 : ℕ → ℕ) (st2 : Bytes) (y2 : Meter) → r2 0 ≡ r 0 + 2 → r2 2 ≡ difference_status false (r 2) false (r 13) (r 12)
      → Stage p s next frames all own segment base sp ps r2 m st2 → Leads n (at segment ps r2 m st2 x y2) Q)
      → Leads (suc n) (at segment ps r m st x y) Q
  compares_back h here go =
      let r2 : ℕ → ℕ = set_reg (set_reg r 0 (r 0 + 2)) 2 (difference_status false (r 2) false (r 13) (r 12)) in
      sets p.code p.low p.high segment sp ps h.ground Q n all h.shape r m st x y Cmp false (Reg 12) (ToReg 13) (InRegister 12)
      (InRegister 13) r2 h.facts h.words here in_register to_register refl tt tt refl h.stack
      (λ st2 y2 facts wide. go r2 st2 y2 refl refl
      (with_regs p s next all own segment base sp ps frames r m r2 st st2 h.stack wide facts h))
