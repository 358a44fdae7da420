-- Operations: what their code computes of two values, in so many instructions, wherever it stands.
use Rattle.std.proofs.Common.{◌≡◌, ◌≢◌, ℕ, suc, ◌+◌, ◌<◌, ◌≤◌, refl, sym, ap, ◌∙◌, subst, arith, Bool, true, false, List, [], ◌∷◌, ◌++◌, Option, Ok, if◌then◌else◌}
use Rattle.base16.specs.Board.{segment_start}
use Rattle.base16.specs.Integer.{wrapped}
use Rattle.base16.specs.declared.integer.IntType.{IntType}
use Rattle.base16.specs.declared.operator.BinaryOp.{BinaryOp}
use Rattle.isa430.specs.declared.instr.TwoOp.{TwoOp}
use Rattle.isa430.specs.declared.instr.TwoOp.TheVariants.{Add, Sub, Bis, Xor, And}
use Rattle.isa430.specs.declared.instr.Src.TheVariants.{Reg}
use Rattle.isa430.specs.declared.instr.Dst.TheVariants.{Reg as ToReg}
use Rattle.isa430.specs.declared.instr.Instr.TheVariants.{Two}
use Rattle.core430.specs.declared.operand.Place.TheVariants.{InRegister}
use Rattle.core430.specs.Instructions.{flagged, two_status}
use Rattle.core430.specs.Registers.{set_reg}
use Rattle.run430.specs.Code.{Here}
use Rattle.run430.proofs.Operands.{in_register, to_register}
use Rattle.rt430.specs.declared.words.Helper.{Helper}
use Rattle.ideal430.specs.Ideal.{Ideal, Meter}
use Rattle.ideal430.specs.Settled.{Bytes}
use Rattle.c_run.specs.Actions.{kept}
use Rattle.c_values.specs.Pointers.{difference, sum_of}
use Rattle.c_values.specs.declared.state.State.{State}
use Rattle.c_values.specs.declared.value.Value.{Value}
use Rattle.cells430.specs.Cells.{Cells}
use Rattle.cells430.specs.Stretch.{Course, at, Leads}
use Rattle.cells430.proofs.Lift.{sets}
use Rattle.ir.specs.declared.control.Frame.{Frame}
use Rattle.ir.specs.declared.form.Operation.{Operation}
use Rattle.ir.specs.declared.form.Operation.TheVariants as operation
use Rattle.ir.specs.Machine.{computed, numbered_as}
use Rattle.ir.specs.Typed.{IsWide}
use Rattle.matching.specs.Matches.{Placed, placed}
use Rattle.select430.specs.declared.part.Part.{Part}
use Rattle.select430.specs.declared.part.Part.TheVariants.{Do}
use Rattle.select430.specs.Code.{perform, operate, left_register, right_register}
use Rattle.steps430.specs.Setting.{Setting, IsLaid}
use Rattle.steps430.specs.Holds.{is_missing, HasCode, value_code}
use Rattle.steps430.specs.Lying.{StayInside, ObjectsLie}
use Rattle.steps430.specs.Standing.{Stage}
use Rattle.steps430.proofs.Differences.{difference_is, counting, differs}
use Rattle.steps430.proofs.Helped as helped
use Rattle.steps430.proofs.Minus.{count_is}
use Rattle.steps430.proofs.Moves.{From, from_do, with_regs}
use Rattle.steps430.proofs.Plus.{one_of, sum_is, both_there, pointer_to_is}
use Rattle.steps430.proofs.Products.{IsHelped, helper_value}
use Rattle.steps430.proofs.Routines.{from_helps, helps_with}
use Rattle.steps430.proofs.Scaled.{scaling, Spares, helps_spares}
use Rattle.steps430.proofs.Sliding.{numbered_code, numbered_missing, slides}
use Rattle.steps430.proofs.Sums.{are_numbers, IsPlain, Plus, Minus, Both, Either, Any, result, computes_word}

-- all values are such
abbrev pub Anything : State → Value → Value → Type 0
Anything s a b = Unit {0}

-- Two values that are as they have to be stand in the registers of an operation, and the result comes into R12. R9 and R10
-- stay.
pub record Computes (p : Setting) (cost : ℕ) (op : Operation) (IsFine : State → Value → Value → Type 0) : Type 1 where
  pub first : 10 < left_register op
  pub second : 10 < right_register op
  pub apart : left_register op ≢ right_register op
  pub there : (s : State) (a b c : Value) → IsFine s a b → computed s op a b ≡ Ok c
      → (is_missing a ≡ false) × (is_missing b ≡ false)
  pub performs : (Q : Ideal → Type 0) (j : ℕ) (s : State) (next : ℕ) (frames : List Frame) (all own : Cells) (segment base sp : ℕ)
      (ps r m : ℕ → ℕ) (st : Bytes) (x : Course) (y : Meter) (f end : ℕ) (more : List Part) (a b c : Value)
      → segment_start segment + 4 ≤ sp → Stage p s next frames all own segment base sp ps r m st → IsFine s a b
      → computed s op a b ≡ Ok c → HasCode (value_code (placed p.core (kept s)) a) (r (left_register op))
      → HasCode (value_code (placed p.core (kept s)) b) (r (right_register op)) → From p f (r 0) (perform op ++ more) end
      → ((r2 m2 : ℕ → ℕ) (st2 : Bytes) (y2 : Meter) → HasCode (value_code (placed p.core (kept s)) c) (r2 12) → Spares r r2
      → From p f (r2 0) more end → Stage p s next frames all own segment base sp ps r2 m2 st2
      → Leads j (at segment ps r2 m2 st2 x y2) Q)
      → Leads (cost + j) (at segment ps r m st x y) Q

-- ---- sums, differences and operators on bits

module _ (p : Setting) (Q : Ideal → Type 0) (j : ℕ) (s : State) (next : ℕ) (frames : List Frame) (all own : Cells)
    (segment base sp : ℕ) (ps r m : ℕ → ℕ) (st : Bytes) (x : Course) (y : Meter) where
  abbrev after : TwoOp → (ℕ → ℕ)
  after i = set_reg (flagged (set_reg r 0 (r 0 + 2)) (two_status i false (r 2) (r 12) (r 13))) 12 (result i (r 12) (r 13))

  -- an instruction on R12 and R13, which leaves R9 and R10
  operates_beside : (o : BinaryOp) (i : TwoOp) → IsPlain o i → Stage p s next frames all own segment base sp ps r m st
      → Here p.code p.low p.high (r 0) (Two i false (Reg 13) (ToReg 12))
      → ((r2 : ℕ → ℕ) (st2 : Bytes) (y2 : Meter) → r2 0 ≡ r 0 + 2 → r2 12 ≡ result i (r 12) (r 13) → Spares r r2
      → Stage p s next frames all own segment base sp ps r2 m st2 → Leads j (at segment ps r2 m st2 x y2) Q)
      → Leads (suc j) (at segment ps r m st x y) Q
  operates_beside o i Plus h here more =
      sets p.code p.low p.high segment sp ps h.ground Q j all h.shape r m st x y Add false (Reg 13) (ToReg 12) (InRegister 13)
      (InRegister 12) (after Add) h.facts h.words here in_register to_register refl tt tt refl h.stack
      (λ st2 y2 facts wide. more (after Add) st2 y2 refl refl (record { nine = refl; ten = refl })
      (with_regs p s next all own segment base sp ps frames r m (after Add) st st2 h.stack wide facts h))
  operates_beside o i Minus h here more =
      sets p.code p.low p.high segment sp ps h.ground Q j all h.shape r m st x y Sub false (Reg 13) (ToReg 12) (InRegister 13)
      (InRegister 12) (after Sub) h.facts h.words here in_register to_register refl tt tt refl h.stack
      (λ st2 y2 facts wide. more (after Sub) st2 y2 refl refl (record { nine = refl; ten = refl })
      (with_regs p s next all own segment base sp ps frames r m (after Sub) st st2 h.stack wide facts h))
  operates_beside o i Both h here more =
      sets p.code p.low p.high segment sp ps h.ground Q j all h.shape r m st x y And false (Reg 13) (ToReg 12) (InRegister 13)
      (InRegister 12) (after And) h.facts h.words here in_register to_register refl tt tt refl h.stack
      (λ st2 y2 facts wide. more (after And) st2 y2 refl refl (record { nine = refl; ten = refl })
      (with_regs p s next all own segment base sp ps frames r m (after And) st st2 h.stack wide facts h))
  operates_beside o i Either h here more =
      sets p.code p.low p.high segment sp ps h.ground Q j all h.shape r m st x y Xor false (Reg 13) (ToReg 12) (InRegister 13)
      (InRegister 12) (after Xor) h.facts h.words here in_register to_register refl tt tt refl h.stack
      (λ st2 y2 facts wide. more (after Xor) st2 y2 refl refl (record { nine = refl; ten = refl })
      (with_regs p s next all own segment base sp ps frames r m (after Xor) st st2 h.stack wide facts h))
  operates_beside o i Any h here more =
      sets p.code p.low p.high segment sp ps h.ground Q j all h.shape r m st x y Bis false (Reg 13) (ToReg 12) (InRegister 13)
      (InRegister 12) (after Bis) h.facts h.words here in_register to_register refl tt tt refl h.stack
      (λ st2 y2 facts wide. more (after Bis) st2 y2 refl refl (record { nine = refl; ten = refl })
      (with_regs p s next all own segment base sp ps frames r m (after Bis) st st2 h.stack wide facts h))

operate_is : (o : BinaryOp) (i : TwoOp) (t : IntType) → IsPlain o i → operate o t ≡ Do (Two i false (Reg 13) (ToReg 12)) ∷ []
operate_is o i t Plus = refl
operate_is o i t Minus = refl
operate_is o i t Both = refl
operate_is o i t Either = refl
operate_is o i t Any = refl

pub plain_computes : (p : Setting) (o : BinaryOp) (i : TwoOp) (t own : IntType) → IsPlain o i → IsWide t
    → Computes p 1 (operation.Integers o t own) Anything
plain_computes p o i t kind plain wide = record {
  first = omega arith;
  second = omega arith;
  apart = omega arith;
  there = λ s a b c fine e. let num = are_numbers o t kind a b c e in (ap is_missing num.is_left, ap is_missing num.is_right);
  performs = λ Q j s next frames all own segment base sp ps r m st x y f end more a b c low h fine e has_a has_b code go.
      let alive : List Placed = placed p.core (kept s) in
      let num = are_numbers o t kind a b c e in
      let split : From p f (r 0) (Do (Two i false (Reg 13) (ToReg 12)) ∷ more) end =
      subst (λ (xs : List Part). From p f (r 0) (xs ++ more) end) (operate_is o i t plain) code in
      let here = from_do p f (r 0) (Two i false (Reg 13) (ToReg 12)) more end split in
      let is_a : r 12 ≡ wrapped num.left = subst (λ (z : Value). HasCode (value_code alive z) (r 12)) num.is_left has_a in
      let is_b : r 13 ≡ wrapped num.right = subst (λ (z : Value). HasCode (value_code alive z) (r 13)) num.is_right has_b in
      let one : suc j ≡ 1 + j = omega arith in
      subst (λ (z : ℕ). Leads z (at segment ps r m st x y) Q) one
      (operates_beside p Q j s next frames all own segment base sp ps r m st x y o i plain h here.0
      (λ r2 st2 y2 at_pc in_r12 spares stage2.
      let word : r2 12 ≡ result i (wrapped num.left) (wrapped num.right) =
      in_r12 ∙ ap (λ (z : ℕ). result i z (r 13)) is_a ∙ ap (λ (z : ℕ). result i (wrapped num.left) z) is_b in
      let is : r2 12 ≡ wrapped num.result =
      computes_word o i t kind num.left num.right num.result (r2 12) plain wide num.computes word (stage2.words 12) in
      go r2 m st2 y2 (subst (λ (z : Value). HasCode (value_code alive z) (r2 12)) (sym num.is_result) is) spares
      (subst (λ (z : ℕ). From p f z more end) (sym at_pc) here.1) stage2));
}

-- ---- operators of helper routines

pub helped_computes : (p : Setting) → IsLaid p → (o : BinaryOp) (which : Helper) (t own : IntType) → IsHelped o t which → IsWide t
    → Computes p 401 (operation.Integers o t own) Anything
helped_computes p lay o which t kind is_helped wide = record {
  first = omega arith;
  second = omega arith;
  apart = omega arith;
  there = λ s a b c fine e. let num = are_numbers o t kind a b c e in (ap is_missing num.is_left, ap is_missing num.is_right);
  performs = λ Q j s next frames all own segment base sp ps r m st x y f end more a b c low h fine e has_a has_b code go.
      let alive : List Placed = placed p.core (kept s) in
      let num = are_numbers o t kind a b c e in
      let here = from_helps p f (r 0) which more end
      (subst (λ (xs : List Part). From p f (r 0) (xs ++ more) end) (helped.operate_is o t which is_helped) code) in
      let is_a : r 12 ≡ wrapped num.left = subst (λ (z : Value). HasCode (value_code alive z) (r 12)) num.is_left has_a in
      let is_b : r 13 ≡ wrapped num.right = subst (λ (z : Value). HasCode (value_code alive z) (r 13)) num.is_right has_b in
      let given = helper_value o t kind which num.left num.right num.result is_helped wide num.computes in
      let many : suc (400 + j) ≡ 401 + j = omega arith in
      subst (λ (z : ℕ). Leads z (at segment ps r m st x y) Q) many
      (helps_with p lay Q j s next frames all own segment base sp ps r m st x y which f (wrapped num.left)
      (wrapped num.right) h low here.0 is_a is_b given.0
      (λ r2 m2 st2 y2 at_pc in_r12 same stage2.
      go r2 m2 st2 y2
      (subst (λ (z : Value). HasCode (value_code alive z) (r2 12)) (sym num.is_result) (in_r12 ∙ given.1))
      (helps_spares which r r2 same) (subst (λ (z : ℕ). From p f z more end) (sym at_pc) here.1) stage2));
}

-- ---- pointers that are moved

abbrev for_left : Bool → ℕ
for_left swapped = if swapped then 12 else 15

abbrev for_right : Bool → ℕ
for_right swapped = if swapped then 15 else 12

above_left : (swapped : Bool) → 10 < for_left swapped
above_left true = omega arith
above_left false = omega arith

above_right : (swapped : Bool) → 10 < for_right swapped
above_right true = omega arith
above_right false = omega arith

two_registers : (swapped : Bool) → for_left swapped ≢ for_right swapped
two_registers true = omega arith
two_registers false = omega arith

pointer_in : (swapped : Bool) (alive : List Placed) (a b : Value) (r : ℕ → ℕ)
    → HasCode (value_code alive a) (r (for_left swapped)) → HasCode (value_code alive b) (r (for_right swapped))
    → HasCode (value_code alive (one_of swapped a b)) (r 15)
pointer_in true alive a b r h k = k
pointer_in false alive a b r h k = h

number_in : (swapped : Bool) (alive : List Placed) (a b : Value) (r : ℕ → ℕ)
    → HasCode (value_code alive a) (r (for_left swapped)) → HasCode (value_code alive b) (r (for_right swapped))
    → HasCode (value_code alive (one_of swapped b a)) (r 12)
number_in true alive a b r h k = h
number_in false alive a b r h k = k

pub plus_computes : (p : Setting) → IsLaid p → (minus : Bool) (size : ℕ) (t u : Option IntType) (swapped : Bool)
    → Computes p (scaling minus size + 1) (operation.PointerPlus minus size t u swapped) Anything
plus_computes p lay minus size t u swapped = record {
  first = above_left swapped;
  second = above_right swapped;
  apart = two_registers swapped;
  there = λ s a b c fine e.
      let to = pointer_to_is (sum_of s swapped minus size (numbered_as t a) (numbered_as u b)) c e in
      let both = both_there swapped s minus size (numbered_as t a) (numbered_as u b) to.location
      (sum_is swapped s minus size t u a b to.location to.is) in
      (numbered_missing t a ∙ both.0, numbered_missing u b ∙ both.1);
  performs = λ Q j s next frames all own segment base sp ps r m st x y f end more a b c low h fine e has_a has_b code go.
      let alive : List Placed = placed p.core (kept s) in
      let to = pointer_to_is (sum_of s swapped minus size (numbered_as t a) (numbered_as u b)) c e in
      let code_a = numbered_code alive t a (r (left_register (operation.PointerPlus minus size t u swapped))) has_a in
      let code_b = numbered_code alive u b (r (right_register (operation.PointerPlus minus size t u swapped))) has_b in
      let some : scaling minus size + suc j ≡ scaling minus size + 1 + j = omega arith in
      subst (λ (z : ℕ). Leads z (at segment ps r m st x y) Q) some
      (slides p lay Q j s next frames all own segment base sp ps r m st x y f end more minus size
      (one_of swapped (numbered_as t a) (numbered_as u b)) (one_of swapped (numbered_as u b) (numbered_as t a)) to.location low h
      (sum_is swapped s minus size t u a b to.location to.is)
      (pointer_in swapped alive (numbered_as t a) (numbered_as u b) r code_a code_b)
      (number_in swapped alive (numbered_as t a) (numbered_as u b) r code_a code_b) code
      (λ r2 m2 st2 y2 points spares code2 stage2.
      go r2 m2 st2 y2 (subst (λ (z : Value). HasCode (value_code alive z) (r2 12)) to.pointer points.value) spares code2 stage2));
}

-- ---- differences of pointers

pub difference_computes : (p : Setting) → IsLaid p → ObjectsLie p → (size : ℕ)
    → Computes p (counting size + 1) (operation.Difference size) StayInside
difference_computes p lay lie size = record {
  first = omega arith;
  second = omega arith;
  apart = omega arith;
  there = λ s a b c fine e.
      let n = count_is (difference s size a b) c e in
      let diff = difference_is s size a b n.count n.is in
      (ap is_missing diff.is_left, ap is_missing diff.is_right);
  performs = λ Q j s next frames all own segment base sp ps r m st x y f end more a b c low h fine e has_a has_b code go.
      let alive : List Placed = placed p.core (kept s) in
      let n = count_is (difference s size a b) c e in
      let some : suc (counting size + j) ≡ counting size + 1 + j = omega arith in
      subst (λ (z : ℕ). Leads z (at segment ps r m st x y) Q) some
      (differs p lay lie Q j s next frames all own segment base sp ps x f end more size a b n.count r m st y low h
      (difference_is s size a b n.count n.is) fine has_a has_b code
      (λ r2 m2 st2 y2 in_r12 spares code2 stage2.
      go r2 m2 st2 y2 (subst (λ (z : Value). HasCode (value_code alive z) (r2 12)) n.value in_r12) spares code2 stage2));
}
