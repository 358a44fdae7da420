-- Sums, differences and bits of two numbers.
use Rattle.std.proofs.Common.{◌≡◌, ℕ, suc, ◌+◌, ◌<◌, refl, sym, ap, ◌∙◌, subst, arith, false, List, [], ◌∷◌, ◌++◌, drop, Result, Ok, Err}
use Rattle.std.proofs.lemmas.List.{append_assoc}
use Rattle.std.specs.Prelude.{ℤ, pos, ◌+ℤ◌, ◌-ℤ◌, bit_and, bit_or, bit_xor}
use Rattle.base16.specs.Integer.{wrapped}
use Rattle.base16.specs.declared.integer.IntType.{IntType}
use Rattle.base16.specs.declared.operator.BinaryOp.{BinaryOp}
use Rattle.base16.specs.declared.operator.BinaryOp.TheVariants as op
use Rattle.isa430.specs.declared.instr.TwoOp.{TwoOp}
use Rattle.isa430.specs.declared.instr.TwoOp.TheVariants.{Add, Sub, Bis, Xor, And}
use Rattle.isa430.specs.declared.instr.Src.TheVariants.{Reg}
use Rattle.isa430.specs.declared.instr.Dst.TheVariants.{Reg as ToReg}
use Rattle.isa430.specs.declared.instr.Instr.TheVariants.{Two}
use Rattle.core430.specs.declared.operand.Place.TheVariants.{InRegister}
use Rattle.core430.specs.Registers.{set_reg}
use Rattle.core430.specs.Instructions.{two_result, two_status, flagged}
use Rattle.run430.specs.Code.{Here}
use Rattle.run430.proofs.Operands.{in_register, to_register}
use Rattle.ideal430.specs.Ideal.{Ideal, Meter}
use Rattle.ideal430.specs.Settled.{Bytes}
use Rattle.c_run.specs.Actions.{kept}
use Rattle.c_values.specs.Operators.{as_type, number, binary}
use Rattle.c_values.specs.Values.{int_value, right_type, operated}
use Rattle.c_values.specs.declared.state.State.{State}
use Rattle.c_values.specs.declared.value.Value.{Value}
use Rattle.c_values.specs.declared.value.Value.TheVariants.{Int, Pointer, Null, Undefined}
use Rattle.cells430.specs.Cells.{Cells}
use Rattle.cells430.specs.Stretch.{Course, outside, at, Leads}
use Rattle.cells430.proofs.Lift.{sets}
use Rattle.ir.specs.declared.control.Temporary.TheVariants as temporary
use Rattle.ir.specs.declared.control.Frame.{Frame}
use Rattle.ir.specs.declared.control.Control.TheVariants.{At}
use Rattle.ir.specs.declared.form.IrFunction.{IrFunction}
use Rattle.ir.specs.declared.form.Operand.{Operand}
use Rattle.ir.specs.declared.form.Operation.TheVariants as operation
use Rattle.ir.specs.declared.form.StepKind.TheVariants as step
use Rattle.ir.specs.Machine.{computed}
use Rattle.ir.specs.Table.{taken}
use Rattle.ir.specs.Typed.{IsWide}
use Rattle.matching.specs.Matches.{Placed, placed}
use Rattle.select430.specs.Frames.{temporaries_at}
use Rattle.select430.specs.declared.part.Part.{Part}
use Rattle.select430.specs.declared.part.Part.TheVariants.{Do}
use Rattle.select430.specs.Code.{bring, keep, operate}
use Rattle.steps430.specs.Setting.{Setting, function_of, step_at, IsLaid}
use Rattle.steps430.specs.Holds.{is_missing, HasCode, value_code}
use Rattle.steps430.specs.Standing.{StandsAt, Stage}
use Rattle.steps430.specs.Follows.{DoesStep}
use Rattle.steps430.proofs.Moves.{From, from_do, level, with_regs}
use Rattle.steps430.proofs.Outcomes.{depth_follows, asked_follows}
use Rattle.steps430.proofs.Steps.{begins, falls, keeps_last}
use Rattle.steps430.proofs.Plain.{room_of}
use Rattle.steps430.proofs.Pairs.{operands_follow, brings_two}
use Rattle.steps430.proofs.Words.{wrapped_number, wrapped_type, wrapped_settled, wrapped_sum, wrapped_difference}

-- ---- two numbers that are computed with

abbrev fine : Value → Result Value ℕ
fine v = Ok v

abbrev wrong : ℕ → Result Value ℕ
wrong n = Err n

pub record AreNumbers (o : BinaryOp) (t own : IntType) (a b c : Value) : Type 0 where
  pub left : ℤ
  pub right : ℤ
  pub result : ℤ
  pub is_left : a ≡ Int left
  pub is_right : b ≡ Int right
  pub is_result : c ≡ Int result
  pub computes : binary o t (number t left) (number (right_type o t own) right) ≡ Ok result

pub are_numbers : (o : BinaryOp) (t own : IntType) (a b c : Value) → operated o t own a b ≡ Ok c → AreNumbers o t own a b c
unfolding operated
are_numbers o t own (Int i) (Int j) c e = from (binary o t (number t i) (number (right_type o t own) j)) refl e
  where
    same : (x : Value) → fine x ≡ fine c → x ≡ c
    same x k = cc

    never : {A : Type 0} (n : ℕ) → wrong n ≡ fine c → A
    never n k = absurd (differ k)
      where
        differ : wrong n ≡ fine c → ⊥
        differ h = cc

    from : (x : Result ℤ ℕ) → binary o t (number t i) (number (right_type o t own) j) ≡ x → int_value x ≡ fine c
        → AreNumbers o t own (Int i) (Int j) c
    from (Ok k) is h = record {
      left = i;
      right = j;
      result = k;
      is_left = refl;
      is_right = refl;
      is_result = sym (same (Int k) h);
      computes = is;
    }
    from (Err n) is h = never n h
are_numbers o t own (Int i) (Pointer n k) c e = cc
are_numbers o t own (Int i) Null c e = cc
are_numbers o t own (Int i) Undefined c e = cc
are_numbers o t own (Pointer n k) (Int j) c e = cc
are_numbers o t own (Pointer n k) (Pointer n2 k2) c e = cc
are_numbers o t own (Pointer n k) Null c e = cc
are_numbers o t own (Pointer n k) Undefined c e = cc
are_numbers o t own Null (Int j) c e = cc
are_numbers o t own Null (Pointer n k) c e = cc
are_numbers o t own Null Null c e = cc
are_numbers o t own Null Undefined c e = cc
are_numbers o t own Undefined (Int j) c e = cc
are_numbers o t own Undefined (Pointer n k) c e = cc
are_numbers o t own Undefined Null c e = cc
are_numbers o t own Undefined Undefined c e = cc

-- ---- instructions that compute them

-- an instruction computes an operator on words
pub data IsPlain : BinaryOp → TwoOp → Type 0 where
  Plus : IsPlain op.Add Add
  Minus : IsPlain op.Sub Sub
  Both : IsPlain op.And And
  Either : IsPlain op.Xor Xor
  Any : IsPlain op.Or Bis

abbrev pub result : TwoOp → ℕ → ℕ → ℕ
result m v w = two_result m false false v w

abbrev pub good : ℤ → Result ℤ ℕ
good z = Ok z

pub same_number : (a b : ℤ) → good a ≡ good b → a ≡ b
same_number a b e = cc

bits : (t : IntType) (n : ℕ) (z : ℤ) → IsWide t → n < 65536 → as_type t (pos n) ≡ z → n ≡ wrapped z
bits t n z wide small e =
    let k = wrapped_type t (pos n) wide in
    let h : wrapped (as_type t (pos n)) ≡ wrapped z = ap wrapped e in
    let plain : wrapped (pos n) ≡ n = omega arith in
    sym plain ∙ sym k ∙ h

pub computes_word : (o : BinaryOp) (m : TwoOp) (t own : IntType) (i j k : ℤ) (n : ℕ) → IsPlain o m → IsWide t
    → binary o t (number t i) (number (right_type o t own) j) ≡ Ok k → n ≡ result m (wrapped i) (wrapped j) → n < 65536
    → n ≡ wrapped k
unfolding binary
computes_word o m t own i j k n Plus wide e is small =
    let s = wrapped_settled t (number t i +ℤ number t j) k wide e in
    let sum = wrapped_sum (number t i) (number t j) in
    let a = wrapped_number t i in
    let b = wrapped_number t j in
    omega arith
computes_word o m t own i j k n Minus wide e is small =
    let s = wrapped_settled t (number t i -ℤ number t j) k wide e in
    let difference = wrapped_difference (number t i) (number t j) in
    let a = wrapped_number t i in
    let b = wrapped_number t j in
    omega arith
computes_word o m t own i j k n Both wide e is small =
    let a = wrapped_number t i in
    let b = wrapped_number t j in
    bits t n k wide small (ap (λ (x : ℕ). as_type t (pos x)) (is ∙ ap (λ (x : ℕ). bit_and x (wrapped j)) (sym a)
    ∙ ap (λ (x : ℕ). bit_and (wrapped (number t i)) x) (sym b)) ∙ same_number _ k e)
computes_word o m t own i j k n Either wide e is small =
    let a = wrapped_number t i in
    let b = wrapped_number t j in
    bits t n k wide small (ap (λ (x : ℕ). as_type t (pos x)) (is ∙ ap (λ (x : ℕ). bit_xor x (wrapped j)) (sym a)
    ∙ ap (λ (x : ℕ). bit_xor (wrapped (number t i)) x) (sym b)) ∙ same_number _ k e)
computes_word o m t own i j k n Any wide e is small =
    let a = wrapped_number t i in
    let b = wrapped_number t j in
    bits t n k wide small (ap (λ (x : ℕ). as_type t (pos x)) (is ∙ ap (λ (x : ℕ). bit_or x (wrapped j)) (sym a)
    ∙ ap (λ (x : ℕ). bit_or (wrapped (number t i)) x) (sym b)) ∙ same_number _ k e)

module _ (p : Setting) (Q : Ideal → Type 0) (n : ℕ) (s : State) (next : ℕ) (frames : List Frame) (all own : Cells)
    (segment base sp : ℕ) (ps r m : ℕ → ℕ) (st : Bytes) (x : Course) (y : Meter) where
  abbrev after : TwoOp → (ℕ → ℕ)
  after i = set_reg (flagged (set_reg r 0 (r 0 + 2)) (two_status i false (r 2) (r 12) (r 13))) 12 (result i (r 12) (r 13))

  -- an instruction on R12 and R13
  pub operates : (o : BinaryOp) (i : TwoOp) → IsPlain o i → Stage p s next frames all own segment base sp ps r m st
      → Here p.code p.low p.high (r 0) (Two i false (Reg 13) (ToReg 12))
      → ((r2 : ℕ → ℕ) (st2 : Bytes) (y2 : Meter) → r2 0 ≡ r 0 + 2 → r2 12 ≡ result i (r 12) (r 13)
      → Stage p s next frames all own segment base sp ps r2 m st2 → Leads n (at segment ps r2 m st2 x y2) Q)
      → Leads (suc n) (at segment ps r m st x y) Q
  operates o i Plus h here more =
      sets p.code p.low p.high segment sp ps h.ground Q n all h.shape r m st x y Add false (Reg 13) (ToReg 12) (InRegister 13)
      (InRegister 12) (after Add) h.facts h.words here in_register to_register refl tt tt refl h.stack
      (λ st2 y2 facts wide. more (after Add) st2 y2 refl refl
      (with_regs p s next all own segment base sp ps frames r m (after Add) st st2 h.stack wide facts h))
  operates o i Minus h here more =
      sets p.code p.low p.high segment sp ps h.ground Q n all h.shape r m st x y Sub false (Reg 13) (ToReg 12) (InRegister 13)
      (InRegister 12) (after Sub) h.facts h.words here in_register to_register refl tt tt refl h.stack
      (λ st2 y2 facts wide. more (after Sub) st2 y2 refl refl
      (with_regs p s next all own segment base sp ps frames r m (after Sub) st st2 h.stack wide facts h))
  operates o i Both h here more =
      sets p.code p.low p.high segment sp ps h.ground Q n all h.shape r m st x y And false (Reg 13) (ToReg 12) (InRegister 13)
      (InRegister 12) (after And) h.facts h.words here in_register to_register refl tt tt refl h.stack
      (λ st2 y2 facts wide. more (after And) st2 y2 refl refl
      (with_regs p s next all own segment base sp ps frames r m (after And) st st2 h.stack wide facts h))
  operates o i Either h here more =
      sets p.code p.low p.high segment sp ps h.ground Q n all h.shape r m st x y Xor false (Reg 13) (ToReg 12) (InRegister 13)
      (InRegister 12) (after Xor) h.facts h.words here in_register to_register refl tt tt refl h.stack
      (λ st2 y2 facts wide. more (after Xor) st2 y2 refl refl
      (with_regs p s next all own segment base sp ps frames r m (after Xor) st st2 h.stack wide facts h))
  operates o i Any h here more =
      sets p.code p.low p.high segment sp ps h.ground Q n all h.shape r m st x y Bis false (Reg 13) (ToReg 12) (InRegister 13)
      (InRegister 12) (after Bis) h.facts h.words here in_register to_register refl tt tt refl h.stack
      (λ st2 y2 facts wide. more (after Bis) st2 y2 refl refl
      (with_regs p s next all own segment base sp ps frames r m (after Bis) st st2 h.stack wide facts h))

-- ---- the step

pub operate_is : (o : BinaryOp) (m : TwoOp) (t : IntType) → IsPlain o m → operate o t ≡ Do (Two m false (Reg 13) (ToReg 12)) ∷ []
operate_is o m t Plus = refl
operate_is o m t Minus = refl
operate_is o m t Both = refl
operate_is o m t Either = refl
operate_is o m t Any = refl

module _ (p : Setting) (lay : IsLaid p) where
  pub binary_does : (d : ℕ) (o : BinaryOp) (m : TwoOp) (t own : IntType) (left right : Operand) → IsPlain o m → IsWide t
      → DoesStep p 4 (step.Binary d (operation.Integers o t own) left right)
  binary_does d o i t kind left right plain wide f q first ts ls node r u e h =
      begins p lay 4 _ (step.Binary d (operation.Integers o t kind) left right) f q first node ts ls r u e h
      (λ all own segment sp ps rr m st y stage low stands code.
      operands_follow p 4 _ node first left right ts _ r (λ a b us ws g k.
      depth_follows p 4 _ d ws _ r (λ depth.
      asked_follows p 4 _ node (λ s. computed s (operation.Integers o t kind) a b) _ r (λ c ok.
      let fn : IrFunction = function_of p f in
      let end : ℕ = step_at p f (q + 1) in
      let alive : List Placed = placed p.core (kept r.state) in
      let num = are_numbers o t kind a b c ok in
      let room = room_of (temporaries_at fn) d (taken left + taken right) 1 fn.frame stands.room (omega arith) in
      let there_a : is_missing a ≡ false = ap is_missing num.is_left in
      let there_b : is_missing b ≡ false = ap is_missing num.is_right in
      let whole = falls p lay (step.Binary d (operation.Integers o t kind) left right) f q node (rr 0) tt stands code in
      let split : From p f (rr 0) (bring p.ir fn left d 12 ++ (bring p.ir fn right (d + taken left) 13 ++
      (operate o t ++ keep p.ir fn d 12))) end =
      subst (λ (parts : List Part). From p f (rr 0) parts end)
      (append_assoc (bring p.ir fn left d 12) (bring p.ir fn right (d + taken left) 13)
      (operate o t ++ keep p.ir fn d 12)) whole in
      let parts : From p f (rr 0) (bring p.ir fn left d 12 ++ (bring p.ir fn right (d + taken left) 13
      ++ (Do (Two i false (Reg 13) (ToReg 12)) ∷ keep p.ir fn d 12))) end =
      subst (λ (xs : List Part). From p f (rr 0) (bring p.ir fn left d 12 ++ (bring p.ir fn right (d + taken left) 13 ++
      (xs ++ keep p.ir fn d 12))) end)
      (operate_is o i t plain) split in
      let Q = StandsAt p (At f (q + 1) first (temporary.Value c ∷ ws) ls) r in
      let x : Course = outside r.state.marks (drop r.used p.readings) in
      brings_two p lay Q r.state r.next all own segment sp ps rr m st x y f q first ls 2 left right ts us ws a b d 12 13 end
      (Do (Two i false (Reg 13) (ToReg 12)) ∷ keep p.ir fn d 12) stage g k there_a there_b depth stands.named parts
      (omega arith) (omega arith)
      (λ v w pc pc2 st2 y2 has_a has_b code2 stage2.
      let r1 : ℕ → ℕ = set_reg (set_reg (set_reg (set_reg rr 0 pc) 12 v) 0 pc2) 13 w in
      let here = from_do p f pc2 (Two i false (Reg 13) (ToReg 12)) (keep p.ir fn d 12) end code2 in
      let is_a : v ≡ wrapped num.left = subst (λ (z : Value). HasCode (value_code alive z) v) num.is_left has_a in
      let is_b : w ≡ wrapped num.right = subst (λ (z : Value). HasCode (value_code alive z) w) num.is_right has_b in
      operates p Q 1 r.state r.next (level f q first ws ∷ ls) all own segment sp sp ps r1 m st2 x y2 o i plain stage2 here.0
      (λ r2 st3 y3 at_pc in_r12 stage3.
      let word : r2 12 ≡ result i (wrapped num.left) (wrapped num.right) =
      in_r12 ∙ ap (λ (z : ℕ). result i z w) is_a ∙ ap (λ (z : ℕ). result i (wrapped num.left) z) is_b in
      let computed_word : r2 12 ≡ wrapped num.result =
      computes_word o i t kind num.left num.right num.result (r2 12) plain wide num.computes word (stage3.words 12) in
      let has : HasCode (value_code alive c) (r2 12) =
      subst (λ (z : Value). HasCode (value_code alive z) (r2 12)) (sym num.is_result) computed_word in
      keeps_last p lay 0 f q (q + 1) first d 12 (r2 12) (temporary.Value c) ws ls r all own segment sp ps r2 m st3 y3 stage3 low
      (subst (λ (z : ℕ). From p f z (keep p.ir fn d 12) end) (sym at_pc) here.1) depth room refl has))))))
