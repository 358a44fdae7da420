-- Jumps that are made where a comparison comes out as it is asked for.
use Rattle.std.proofs.Common.{◌≡◌, ℕ, suc, ◌+◌, refl, sym, ap, ◌∙◌, subst, arith, Bool, true, false, not, List, [], ◌∷◌, ◌++◌, drop, Result, Ok, if◌then◌else◌}
use Rattle.std.proofs.lemmas.List.{append_assoc}
use Rattle.std.specs.Prelude.{ℤ, pos, int_lt, int_le}
use Rattle.base16.specs.Integer.{wrapped, signed}
use Rattle.base16.specs.declared.integer.IntType.{IntType}
use Rattle.base16.specs.declared.integer.IntType.TheVariants as int
use Rattle.base16.specs.declared.operator.BinaryOp.{BinaryOp}
use Rattle.base16.specs.declared.operator.BinaryOp.TheVariants as op
use Rattle.isa430.specs.declared.instr.TwoOp.TheVariants.{Mov, Cmp}
use Rattle.isa430.specs.declared.instr.Cond.{Cond}
use Rattle.isa430.specs.declared.instr.Cond.TheVariants.{Nz, Z, Nc, C, Ge, Less}
use Rattle.isa430.specs.declared.instr.Src.TheVariants.{Reg, Immediate}
use Rattle.isa430.specs.declared.instr.Dst.TheVariants.{Reg as ToReg}
use Rattle.isa430.specs.declared.instr.Instr.TheVariants.{Two}
use Rattle.core430.specs.declared.operand.Place.TheVariants.{InRegister, Given}
use Rattle.core430.specs.Arithmetic.{difference_status}
use Rattle.core430.specs.Registers.{set_reg}
use Rattle.core430.specs.Instructions.{is_taken, jump_target}
use Rattle.run430.proofs.Operands.{given, to_register}
use Rattle.ideal430.specs.Ideal.{Ideal, Meter}
use Rattle.ideal430.specs.Settled.{Bytes}
use Rattle.c_run.specs.Actions.{kept}
use Rattle.c_values.specs.Operators.{number, is_zero, int_eq, binary}
use Rattle.c_values.specs.Pointers.{truth_of}
use Rattle.c_values.specs.Values.{right_type, numbered}
use Rattle.c_values.specs.declared.state.State.{State}
use Rattle.c_values.specs.declared.value.Value.{Value}
use Rattle.c_values.specs.declared.value.Value.TheVariants.{Int}
use Rattle.cells430.specs.Cells.{Cells}
use Rattle.cells430.specs.Stretch.{Course, outside, at, Leads}
use Rattle.cells430.proofs.Lift.{goes, jumps, leads_now, leads_weaker}
use Rattle.ir.specs.declared.control.Frame.{Frame}
use Rattle.ir.specs.declared.control.Control.TheVariants.{At}
use Rattle.ir.specs.declared.form.IrFunction.{IrFunction}
use Rattle.ir.specs.declared.form.Operand.{Operand}
use Rattle.ir.specs.declared.form.Operation.TheVariants as operation
use Rattle.ir.specs.declared.form.Test.TheVariants as test
use Rattle.ir.specs.declared.form.StepKind.TheVariants as step
use Rattle.ir.specs.Machine.{act, computed, on_test, branch}
use Rattle.ir.specs.Table.{taken}
use Rattle.matching.specs.Matches.{Placed, placed}
use Rattle.select430.specs.declared.part.Part.{Part}
use Rattle.select430.specs.declared.part.Part.TheVariants.{Do, GoUnless}
use Rattle.select430.specs.Code.{bring, is_signed, opposite, test_flags, test_where}
use Rattle.steps430.specs.Setting.{Setting, function_of, step_at, IsLaid}
use Rattle.steps430.specs.Holds.{is_missing, HasCode, value_code}
use Rattle.steps430.specs.Standing.{StandsAt, Stage}
use Rattle.steps430.specs.Follows.{DoesStep}
use Rattle.steps430.proofs.Moves.{From, from_do, level, with_regs, with_level}
use Rattle.steps430.proofs.Outcomes.{depth_follows, asked_follows}
use Rattle.steps430.proofs.Steps.{begins, falls, stands_next}
use Rattle.steps430.proofs.Pairs.{operands_follow, brings_two}
use Rattle.steps430.proofs.Sums.{are_numbers}
use Rattle.steps430.proofs.Conditions.{flag, compares, compares_back}
use Rattle.steps430.proofs.Orders.{less_taken, reach_taken, same_taken, not_above, answer}

-- ---- a jump unless a condition holds

module _ (p : Setting) (lay : IsLaid p) (Q : Ideal
    → Type 0) (n : ℕ) (s : State) (next : ℕ) (frames : List Frame) (all own : Cells)
    (segment base sp : ℕ) (ps r m : ℕ → ℕ) (st : Bytes) (x : Course) (y : Meter) where
  pub goes_unless : (f to end : ℕ) (cond : Cond) (b : Bool) → Stage p s next frames all own segment base sp ps r m st
      → is_taken cond (r 2) ≡ b → From p f (r 0) (GoUnless cond to ∷ []) end
      → ((r2 : ℕ → ℕ) (st2 : Bytes) (y2 : Meter) → r2 0 ≡ (if b then end else step_at p f to)
      → Stage p s next frames all own segment base sp ps r2 m st2 → Leads n (at segment ps r2 m st2 x y2) Q)
      → Leads (suc (suc n)) (at segment ps r m st x y) Q
  goes_unless f to end cond true h is code go =
      let c = code.code in
      let e = code.size in
      let last = c.1.0 in
      let high = last.high in let top = last.top in
      let a : ℕ = r 0 + 2 + 4 in
      let there : jump_target (r 0 + 2) (pos 2) ≡ a = omega arith in
      let same : a ≡ end = omega arith in
      jumps p.code p.low p.high segment sp ps h.ground Q (suc n) all h.shape r m st x y cond
      (pos 2) true a h.facts h.words c.0 h.stack
      is there (omega arith) (λ st2 y2 facts wide.
      leads_weaker n (suc n) _ Q Q (omega arith) (λ u k. k)
      (go (set_reg r 0 a) st2 y2 same
      (with_regs p s next all own segment base sp ps frames r m (set_reg r 0 a) st st2 h.stack wide facts h)))
  goes_unless f to end cond false h is code go =
      let c = code.code in
      let last = c.1.0 in
      let high = last.high in let top = last.top in
      let a : ℕ = r 0 + 2 + 4 in
      let there : jump_target (r 0 + 2) (pos 2) ≡ a = omega arith in
      let r1 : ℕ → ℕ = set_reg r 0 (r 0 + 2) in
      let r2 : ℕ → ℕ = set_reg (set_reg r1 0 (r 0 + 2 + 4)) 0 (step_at p f to) in
      jumps p.code p.low p.high segment sp ps h.ground Q (suc n) all h.shape r m st x y cond
      (pos 2) false a h.facts h.words c.0 h.stack
      is there (omega arith) (λ st2 y2 facts wide.
      goes p.code p.low p.high segment sp ps h.ground Q n all h.shape r1 m st2 x y2 Mov false (Immediate (step_at p f to))
      (ToReg 0)
      (Given (step_at p f to)) (InRegister 0) r2 facts wide c.1.0 given to_register refl tt tt (lay.below f to) h.stack
      (λ st3 y3 facts2 wide2.
      go r2 st3 y3 refl (with_regs p s next all own segment base sp ps frames r m r2 st st3 h.stack wide2 facts2 h)))

-- ---- truths

twice : (b : Bool) → b ≡ not (not b)
twice true = refl
twice false = refl

-- the opposite condition, for those that comparisons ask
pub data IsAsked : Cond → Type 0 where
  AskZ : IsAsked Z
  AskNz : IsAsked Nz
  AskC : IsAsked C
  AskNc : IsAsked Nc
  AskLess : IsAsked Less
  AskGe : IsAsked Ge

opposite_taken : (c : Cond) (status : ℕ) → IsAsked c → is_taken (opposite c) status ≡ not (is_taken c status)
opposite_taken c status AskZ = refl
opposite_taken c status AskNz = twice (is_taken Z status)
opposite_taken c status AskC = refl
opposite_taken c status AskNc = twice (is_taken C status)
opposite_taken c status AskLess = twice (is_taken Ge status)
opposite_taken c status AskGe = refl

tested_is : (of : IntType) (k : ℤ) (b : Bool) → wrapped k ≡ flag b → not (is_zero (number of k)) ≡ b
unfolding number
tested_is int.Int k true e = ap (λ (w : ℕ). not (is_zero (signed w))) e
tested_is int.Int k false e = ap (λ (w : ℕ). not (is_zero (signed w))) e
tested_is int.UInt k true e = ap (λ (w : ℕ). not (is_zero (pos w))) e
tested_is int.UInt k false e = ap (λ (w : ℕ). not (is_zero (pos w))) e
tested_is int.Char k true e = ap (λ (w : ℕ). not (is_zero (pos w))) e
tested_is int.Char k false e = ap (λ (w : ℕ). not (is_zero (pos w))) e

abbrev good : Bool → Result Bool ℕ
good b = Ok b

same_truth : (a b : Bool) → good a ≡ good b → a ≡ b
same_truth a b e = cc

pub truth_is : (s : State) (of : IntType) (v : Value) (k : ℤ) (b c : Bool) → v ≡ Int k → truth_of s (numbered of v) ≡ Ok b
    → wrapped k ≡ flag c → b ≡ c
unfolding truth_of
truth_is s of v k b c e ok is =
    let told : good (not (is_zero (number of k))) ≡ good b =
    ap (λ (z : Value). truth_of s (numbered of z)) (sym e) ∙ ok in
    sym (same_truth (not (is_zero (number of k))) b told) ∙ tested_is of k c is

-- where the run goes on
target_is : (p : Setting) (f to q : ℕ) (b c when : Bool) → c ≡ (if when then not b else b)
    → (if c then step_at p f (q + 1) else step_at p f to) ≡ step_at p f (branch b when to (q + 1))
target_is p f to q true c true e = ap (λ (z : Bool). if z then step_at p f (q + 1) else step_at p f to) e
target_is p f to q true c false e = ap (λ (z : Bool). if z then step_at p f (q + 1) else step_at p f to) e
target_is p f to q false c true e = ap (λ (z : Bool). if z then step_at p f (q + 1) else step_at p f to) e
target_is p f to q false c false e = ap (λ (z : Bool). if z then step_at p f (q + 1) else step_at p f to) e

pub stays : (cond : Cond) (when : Bool) (status : ℕ) → IsAsked cond
    → is_taken (if when then opposite cond else cond) status ≡ (if when then not (is_taken cond status) else is_taken cond status)
stays cond true status asked = opposite_taken cond status asked
stays cond false status asked = refl

-- a condition of comparisons
pub asked_by : (t : IntType) → IsAsked (if is_signed t then Less else Nc)
asked_by int.Int = AskLess
asked_by int.UInt = AskNc
asked_by int.Char = AskNc

pub asked_from : (t : IntType) → IsAsked (if is_signed t then Ge else C)
asked_from int.Int = AskGe
asked_from int.UInt = AskC
asked_from int.Char = AskC

module _ (p : Setting) (lay : IsLaid p) where
  branch_front : (d : ℕ) (o : BinaryOp) (t own : IntType) (left right : Operand) (of : IntType) (when : Bool) (to : ℕ)
      (cond : Cond)
      → IsAsked cond → test_flags (operation.Integers o t own) ≡ Do (Two Cmp false (Reg 13) (ToReg 12)) ∷ []
      → test_where (operation.Integers o t own) ≡ cond
      → ((i j k : ℤ) (status : ℕ) → binary o t (number t i) (number (right_type o t own) j) ≡ Ok k
      → wrapped k ≡ flag (is_taken cond (difference_status false status false (wrapped i) (wrapped j))))
      → DoesStep p 5 (step.Branch d (test.Computed (operation.Integers o t own) left right) of when to)
  unfolding on_test
  branch_front d o t kind left right of when to cond asked same_flags same_cond tells f q first ts ls node r u e h =
      begins p lay 5 (act p.ir p.readings node (step.Branch d (test.Computed
      (operation.Integers o t kind) left right) of when to) f q first ts
      ls r) (step.Branch d (test.Computed (operation.Integers o t kind) left right) of when to) f q first node ts ls r u e h
      (λ all own segment sp ps rr m st y stage low stands code.
      operands_follow p 5 _ node first left right ts _ r (λ a b us ws g k.
      asked_follows p 5 _ node (λ s. computed s (operation.Integers o t kind) a b) _ r (λ c ok.
      depth_follows p 5 _ d ws _ r (λ depth.
      asked_follows p 5 _ node (λ s. truth_of s (numbered of c)) _ r (λ yes sure.
      let fn : IrFunction = function_of p f in
      let end : ℕ = step_at p f (q + 1) in
      let alive : List Placed = placed p.core (kept r.state) in
      let num = are_numbers o t kind a b c ok in
      let there_a : is_missing a ≡ false = ap is_missing num.is_left in
      let there_b : is_missing b ≡ false = ap is_missing num.is_right in
      let stay : Cond = if when then opposite cond else cond in
      let A : List Part = bring p.ir fn left d 12 in
      let B : List Part = bring p.ir fn right (d + taken left) 13 in
      let whole = falls p lay (step.Branch d (test.Computed (operation.Integers o t kind) left right) of when to) f q node
      (rr 0) tt stands code in
      let one : From p f (rr 0) (((A ++ B) ++ test_flags (operation.Integers o t kind)) ++ (GoUnless stay to ∷ [])) end =
      subst (λ (z : Cond). From p f (rr 0) (((A ++ B) ++ test_flags (operation.Integers o t kind))
      ++ (GoUnless (if when then opposite z else z) to ∷ [])) end) same_cond whole in
      let two : From p f (rr 0) (((A ++ B) ++ (Do (Two Cmp false (Reg 13) (ToReg 12)) ∷ [])) ++ (GoUnless stay to ∷ [])) end =
      subst (λ (z : List Part). From p f (rr 0) (((A ++ B) ++ z) ++ (GoUnless stay to ∷ [])) end) same_flags one in
      let three : From p f (rr 0) ((A ++ B) ++ (Do (Two Cmp false (Reg 13) (ToReg 12)) ∷ (GoUnless stay to ∷ []))) end =
      subst (λ (z : List Part). From p f (rr 0) z end)
      (append_assoc (A ++ B) (Do (Two Cmp false (Reg 13) (ToReg 12)) ∷ []) (GoUnless stay to ∷ [])) two in
      let parts : From p f (rr 0) (A ++ (B ++ (Do (Two Cmp false (Reg 13) (ToReg 12)) ∷ (GoUnless stay to ∷ [])))) end =
      subst (λ (z : List Part). From p f (rr 0) z end)
      (append_assoc A B (Do (Two Cmp false (Reg 13) (ToReg 12)) ∷ (GoUnless stay to ∷ []))) three in
      let Q = StandsAt p (At f (branch yes when to (q + 1)) first ws ls) r in
      let x : Course = outside r.state.marks (drop r.used p.readings) in
      brings_two p lay Q r.state r.next all own segment sp ps rr m st x y f q first ls 3 left right ts us ws a b d 12 13 end
      (Do (Two Cmp false (Reg 13) (ToReg 12)) ∷ (GoUnless stay to ∷ [])) stage g k there_a there_b depth stands.named parts
      (omega arith) (omega arith)
      (λ v w pc pc2 st2 y2 has_a has_b code2 stage2.
      let r1 : ℕ → ℕ = set_reg (set_reg (set_reg (set_reg rr 0 pc) 12 v) 0 pc2) 13 w in
      let here = from_do p f pc2 (Two Cmp false (Reg 13) (ToReg 12)) (GoUnless stay to ∷ []) end code2 in
      let is_a : v ≡ wrapped num.left = subst (λ (z : Value). HasCode (value_code alive z) v) num.is_left has_a in
      let is_b : w ≡ wrapped num.right = subst (λ (z : Value). HasCode (value_code alive z) w) num.is_right has_b in
      compares p Q 2 r.state r.next (level f q first ws ∷ ls) all own segment sp sp ps r1 m st2 x y2 stage2 here.0
      (λ r2 st3 y3 at_pc in_flags stage3.
      let status : r2 2 ≡ difference_status false (r1 2) false (wrapped num.left) (wrapped num.right) =
      in_flags ∙ ap (λ (z : ℕ). difference_status false (r1 2) false z w) is_a
      ∙ ap (λ (z : ℕ). difference_status false (r1 2) false (wrapped num.left) z) is_b in
      let word : wrapped num.result ≡ flag (is_taken cond (r2 2)) =
      tells num.left num.right num.result (r1 2) num.computes ∙ ap (λ (z : ℕ). flag (is_taken cond z)) (sym status) in
      let truth : yes ≡ is_taken cond (r2 2) = truth_is r.state of c num.result yes (is_taken cond
      (r2 2)) num.is_result sure word in
      let skips : is_taken stay (r2 2) ≡ (if when then not yes else yes) =
      stays cond when (r2 2) asked ∙ ap (λ (z : Bool). if when then not z else z) (sym truth) in
      goes_unless p lay Q 0 r.state r.next (level f q first ws ∷ ls) all own segment sp sp ps r2 m st3 x y3 f to end stay
      (is_taken stay (r2 2)) stage3 refl (subst (λ (z : ℕ). From p f z (GoUnless stay to ∷ []) end) (sym at_pc) here.1)
      (λ r3 st4 y4 at_target stage4.
      leads_now 0 _ Q
      (stands_next p lay f (branch yes when to (q + 1)) first ws ls r all own segment sp ps r3 m st4 y4
      (with_level p r.state r.next all own segment sp sp ps f q (branch yes when to (q + 1)) first ws ws ls r3 m st4
      (λ z j. j) stage4) low
      (at_target ∙ target_is p f to q yes (is_taken stay (r2 2)) when skips))))))))))

  branch_back : (d : ℕ) (o : BinaryOp) (t own : IntType) (left right : Operand) (of : IntType) (when : Bool) (to : ℕ)
      (cond : Cond)
      → IsAsked cond → test_flags (operation.Integers o t own) ≡ Do (Two Cmp false (Reg 12) (ToReg 13)) ∷ []
      → test_where (operation.Integers o t own) ≡ cond
      → ((i j k : ℤ) (status : ℕ) → binary o t (number t i) (number (right_type o t own) j) ≡ Ok k
      → wrapped k ≡ flag (is_taken cond (difference_status false status false (wrapped j) (wrapped i))))
      → DoesStep p 5 (step.Branch d (test.Computed (operation.Integers o t own) left right) of when to)
  unfolding on_test
  branch_back d o t kind left right of when to cond asked same_flags same_cond tells f q first ts ls node r u e h =
      begins p lay 5 (act p.ir p.readings node (step.Branch d (test.Computed
      (operation.Integers o t kind) left right) of when to) f q first ts
      ls r) (step.Branch d (test.Computed (operation.Integers o t kind) left right) of when to) f q first node ts ls r u e h
      (λ all own segment sp ps rr m st y stage low stands code.
      operands_follow p 5 _ node first left right ts _ r (λ a b us ws g k.
      asked_follows p 5 _ node (λ s. computed s (operation.Integers o t kind) a b) _ r (λ c ok.
      depth_follows p 5 _ d ws _ r (λ depth.
      asked_follows p 5 _ node (λ s. truth_of s (numbered of c)) _ r (λ yes sure.
      let fn : IrFunction = function_of p f in
      let end : ℕ = step_at p f (q + 1) in
      let alive : List Placed = placed p.core (kept r.state) in
      let num = are_numbers o t kind a b c ok in
      let there_a : is_missing a ≡ false = ap is_missing num.is_left in
      let there_b : is_missing b ≡ false = ap is_missing num.is_right in
      let stay : Cond = if when then opposite cond else cond in
      let A : List Part = bring p.ir fn left d 12 in
      let B : List Part = bring p.ir fn right (d + taken left) 13 in
      let whole = falls p lay (step.Branch d (test.Computed (operation.Integers o t kind) left right) of when to) f q node
      (rr 0) tt stands code in
      let one : From p f (rr 0) (((A ++ B) ++ test_flags (operation.Integers o t kind)) ++ (GoUnless stay to ∷ [])) end =
      subst (λ (z : Cond). From p f (rr 0) (((A ++ B) ++ test_flags (operation.Integers o t kind))
      ++ (GoUnless (if when then opposite z else z) to ∷ [])) end) same_cond whole in
      let two : From p f (rr 0) (((A ++ B) ++ (Do (Two Cmp false (Reg 12) (ToReg 13)) ∷ [])) ++ (GoUnless stay to ∷ [])) end =
      subst (λ (z : List Part). From p f (rr 0) (((A ++ B) ++ z) ++ (GoUnless stay to ∷ [])) end) same_flags one in
      let three : From p f (rr 0) ((A ++ B) ++ (Do (Two Cmp false (Reg 12) (ToReg 13)) ∷ (GoUnless stay to ∷ []))) end =
      subst (λ (z : List Part). From p f (rr 0) z end)
      (append_assoc (A ++ B) (Do (Two Cmp false (Reg 12) (ToReg 13)) ∷ []) (GoUnless stay to ∷ [])) two in
      let parts : From p f (rr 0) (A ++ (B ++ (Do (Two Cmp false (Reg 12) (ToReg 13)) ∷ (GoUnless stay to ∷ [])))) end =
      subst (λ (z : List Part). From p f (rr 0) z end)
      (append_assoc A B (Do (Two Cmp false (Reg 12) (ToReg 13)) ∷ (GoUnless stay to ∷ []))) three in
      let Q = StandsAt p (At f (branch yes when to (q + 1)) first ws ls) r in
      let x : Course = outside r.state.marks (drop r.used p.readings) in
      brings_two p lay Q r.state r.next all own segment sp ps rr m st x y f q first ls 3 left right ts us ws a b d 12 13 end
      (Do (Two Cmp false (Reg 12) (ToReg 13)) ∷ (GoUnless stay to ∷ [])) stage g k there_a there_b depth stands.named parts
      (omega arith) (omega arith)
      (λ v w pc pc2 st2 y2 has_a has_b code2 stage2.
      let r1 : ℕ → ℕ = set_reg (set_reg (set_reg (set_reg rr 0 pc) 12 v) 0 pc2) 13 w in
      let here = from_do p f pc2 (Two Cmp false (Reg 12) (ToReg 13)) (GoUnless stay to ∷ []) end code2 in
      let is_a : v ≡ wrapped num.left = subst (λ (z : Value). HasCode (value_code alive z) v) num.is_left has_a in
      let is_b : w ≡ wrapped num.right = subst (λ (z : Value). HasCode (value_code alive z) w) num.is_right has_b in
      compares_back p Q 2 r.state r.next (level f q first ws ∷ ls) all own segment sp sp ps r1 m st2 x y2 stage2 here.0
      (λ r2 st3 y3 at_pc in_flags stage3.
      let status : r2 2 ≡ difference_status false (r1 2) false (wrapped num.right) (wrapped num.left) =
      in_flags ∙ ap (λ (z : ℕ). difference_status false (r1 2) false w z) is_a
      ∙ ap (λ (z : ℕ). difference_status false (r1 2) false z (wrapped num.left)) is_b in
      let word : wrapped num.result ≡ flag (is_taken cond (r2 2)) =
      tells num.left num.right num.result (r1 2) num.computes ∙ ap (λ (z : ℕ). flag (is_taken cond z)) (sym status) in
      let truth : yes ≡ is_taken cond (r2 2) = truth_is r.state of c num.result yes (is_taken cond
      (r2 2)) num.is_result sure word in
      let skips : is_taken stay (r2 2) ≡ (if when then not yes else yes) =
      stays cond when (r2 2) asked ∙ ap (λ (z : Bool). if when then not z else z) (sym truth) in
      goes_unless p lay Q 0 r.state r.next (level f q first ws ∷ ls) all own segment sp sp ps r2 m st3 x y3 f to end stay
      (is_taken stay (r2 2)) stage3 refl (subst (λ (z : ℕ). From p f z (GoUnless stay to ∷ []) end) (sym at_pc) here.1)
      (λ r3 st4 y4 at_target stage4.
      leads_now 0 _ Q
      (stands_next p lay f (branch yes when to (q + 1)) first ws ls r all own segment sp ps r3 m st4 y4
      (with_level p r.state r.next all own segment sp sp ps f q (branch yes when to (q + 1)) first ws ws ls r3 m st4
      (λ z j. j) stage4) low
      (at_target ∙ target_is p f to q yes (is_taken stay (r2 2)) when skips))))))))))

  pub branch_less_does : (d : ℕ) (t own : IntType) (left right : Operand) (of : IntType) (when : Bool) (to : ℕ)
      → DoesStep p 5 (step.Branch d (test.Computed (operation.Integers op.Less t own) left right) of when to)
  unfolding binary
  branch_less_does d t own left right of when to =
      branch_front d op.Less t own left right of when to (if is_signed t then Less else Nc) (asked_by t) refl refl
      (λ i j k status e. answer (int_lt (number t i) (number t j)) _ k e (less_taken t i j status))

  pub branch_greater_does : (d : ℕ) (t own : IntType) (left right : Operand) (of : IntType) (when : Bool) (to : ℕ)
      → DoesStep p 5 (step.Branch d (test.Computed (operation.Integers op.Greater t own) left right) of when to)
  unfolding binary
  branch_greater_does d t own left right of when to =
      branch_back d op.Greater t own left right of when to (if is_signed t then Less else Nc) (asked_by t) refl refl
      (λ i j k status e. answer (int_lt (number t j) (number t i)) _ k e (less_taken t j i status))

  pub branch_less_equal_does : (d : ℕ) (t own : IntType) (left right : Operand) (of : IntType) (when : Bool) (to : ℕ)
      → DoesStep p 5 (step.Branch d (test.Computed (operation.Integers op.LessEq t own) left right) of when to)
  unfolding binary
  branch_less_equal_does d t own left right of when to =
      branch_back d op.LessEq t own left right of when to (if is_signed t then Ge else C) (asked_from t) refl refl
      (λ i j k status e. answer (int_le (number t i) (number t j)) _ k e
      (reach_taken t j i status ∙ sym (not_above (number t i) (number t j))))

  pub branch_greater_equal_does : (d : ℕ) (t own : IntType) (left right : Operand) (of : IntType) (when : Bool) (to : ℕ)
      → DoesStep p 5 (step.Branch d (test.Computed (operation.Integers op.GreaterEq t own) left right) of when to)
  unfolding binary
  branch_greater_equal_does d t own left right of when to =
      branch_front d op.GreaterEq t own left right of when to (if is_signed t then Ge else C) (asked_from t) refl refl
      (λ i j k status e. answer (int_le (number t j) (number t i)) _ k e
      (reach_taken t i j status ∙ sym (not_above (number t j) (number t i))))

  pub branch_equal_does : (d : ℕ) (t own : IntType) (left right : Operand) (of : IntType) (when : Bool) (to : ℕ)
      → DoesStep p 5 (step.Branch d (test.Computed (operation.Integers op.Equal t own) left right) of when to)
  unfolding binary
  branch_equal_does d t own left right of when to =
      branch_front d op.Equal t own left right of when to Z AskZ refl refl
      (λ i j k status e. answer (int_eq (number t i) (number t j)) _ k e (same_taken t i j status))

  pub branch_not_equal_does : (d : ℕ) (t own : IntType) (left right : Operand) (of : IntType) (when : Bool) (to : ℕ)
      → DoesStep p 5 (step.Branch d (test.Computed (operation.Integers op.NotEqual t own) left right) of when to)
  unfolding binary
  branch_not_equal_does d t own left right of when to =
      branch_front d op.NotEqual t own left right of when to Nz AskNz refl refl
      (λ i j k status e. answer (not (int_eq (number t i) (number t j))) _ k e (ap not (same_taken t i j status)))
