-- Sums, differences, bits and comparisons of two temporaries, of which the left one stays beside what is computed.
use Rattle.std.proofs.Common.{◌≡◌, ℕ, suc, ◌+◌, ◌*◌, ◌≤◌, refl, sym, ap, ◌∙◌, subst, arith, false, not, List, ◌∷◌, ◌++◌, drop, Ok}
use Rattle.std.specs.Prelude.{ℤ, int_lt, int_le}
use Rattle.base16.specs.Integer.{wrapped}
use Rattle.base16.specs.declared.integer.IntType.{IntType}
use Rattle.base16.specs.declared.operator.BinaryOp.{BinaryOp}
use Rattle.base16.specs.declared.operator.BinaryOp.TheVariants as op
use Rattle.isa430.specs.declared.instr.TwoOp.{TwoOp}
use Rattle.isa430.specs.declared.instr.Src.TheVariants.{Reg}
use Rattle.isa430.specs.declared.instr.Dst.TheVariants.{Reg as ToReg}
use Rattle.isa430.specs.declared.instr.Instr.TheVariants.{Two}
use Rattle.core430.specs.Registers.{set_reg}
use Rattle.core430.specs.Instructions.{is_taken}
use Rattle.c_run.specs.Actions.{kept}
use Rattle.c_values.specs.Operators.{number, int_eq, binary}
use Rattle.c_values.specs.Values.{right_type, operated}
use Rattle.c_values.specs.declared.state.State.{State}
use Rattle.c_values.specs.declared.value.Value.{Value}
use Rattle.cells430.specs.Stretch.{Course, outside}
use Rattle.ir.specs.declared.control.Temporary.{Temporary}
use Rattle.ir.specs.declared.control.Temporary.TheVariants as temporary
use Rattle.ir.specs.declared.control.Control.TheVariants.{At}
use Rattle.ir.specs.declared.form.IrFunction.{IrFunction}
use Rattle.ir.specs.declared.form.Operation.TheVariants as operation
use Rattle.ir.specs.declared.form.StepKind.TheVariants as step
use Rattle.ir.specs.Machine.{computed}
use Rattle.ir.specs.Typed.{IsWide}
use Rattle.matching.specs.Matches.{Placed, placed}
use Rattle.select430.specs.Frames.{temporaries_at}
use Rattle.select430.specs.declared.part.Part.{Part}
use Rattle.select430.specs.declared.part.Part.TheVariants.{Do}
use Rattle.select430.specs.Code.{bring_temporary, keep, is_signed, holds_where}
use Rattle.steps430.specs.Setting.{Setting, function_of, step_at, IsLaid}
use Rattle.steps430.specs.Holds.{is_missing, HasCode, value_code}
use Rattle.steps430.specs.Standing.{StandsAt, Stage}
use Rattle.steps430.specs.Follows.{DoesStep}
use Rattle.steps430.proofs.Moves.{From, from_do, level}
use Rattle.steps430.proofs.Outcomes.{value_follows, depth_follows, asked_follows}
use Rattle.steps430.proofs.Steps.{begins, falls, keeps_last}
use Rattle.steps430.proofs.Sums.{IsPlain, are_numbers, result, computes_word, operates, operate_is}
use Rattle.steps430.proofs.Conditions.{flag}
use Rattle.steps430.proofs.Orders.{less_taken, reach_taken, same_taken, not_above, answer}
use Rattle.steps430.proofs.Branches.{AskZ, AskNz, asked_by, asked_from}
use Rattle.steps430.proofs.Besides.{brings_beside}
use Rattle.steps430.proofs.Finding.{where_always, FindsTop}
use Rattle.steps430.proofs.Comparing.{flags_by, Tells, IsTold, beside_told}
use Rattle.steps430.proofs.ComparingPointers.{is_back}

module _ (p : Setting) (lay : IsLaid p) where
  pub beside_plain_does : (d : ℕ) (o : BinaryOp) (m : TwoOp) (t own : IntType) → IsPlain o m → IsWide t
      → DoesStep p 4 (step.Beside d (operation.Integers o t own))
  beside_plain_does d o i t kind plain wide f q first ts ls node r u e h =
      begins p lay 4 _ (step.Beside d (operation.Integers o t kind)) f q first node ts ls r u e h
      (λ all own segment sp ps rr m st y stage low stands code.
      value_follows p 4 _ ts _ r (λ b us is_ts.
      value_follows p 4 _ us _ r (λ a ws is_us.
      depth_follows p 4 _ d ws _ r (λ depth.
      asked_follows p 4 _ node (λ s. computed s (operation.Integers o t kind) a b) _ r (λ c ok.
      let fn : IrFunction = function_of p f in
      let end : ℕ = step_at p f (q + 1) in
      let alive : List Placed = placed p.core (kept r.state) in
      let num = are_numbers o t kind a b c ok in
      let room : temporaries_at fn + 2 * suc d + 2 ≤ fn.frame = let h2 = stands.room in omega arith in
      let top : ts ≡ temporary.Value b ∷ temporary.Value a ∷ ws =
      is_ts ∙ ap (λ (xs : List Temporary). temporary.Value b ∷ xs) is_us in
      let parts : From p f (rr 0) (bring_temporary p.ir fn d 12 ++ (bring_temporary p.ir fn (suc d) 13
      ++ (Do (Two i false (Reg 13) (ToReg 12)) ∷ keep p.ir fn (suc d) 12))) end =
      subst (λ (xs : List Part). From p f (rr 0) (bring_temporary p.ir fn d 12 ++ (bring_temporary p.ir fn (suc d) 13
      ++ (xs ++ keep p.ir fn (suc d) 12))) end)
      (operate_is o i t plain) (falls p lay (step.Beside d (operation.Integers o t kind)) f q node (rr 0) tt stands code) in
      let Q = StandsAt p (At f (q + 1) first (temporary.Value c ∷ temporary.Value a ∷ ws) ls) r in
      let x : Course = outside r.state.marks (drop r.used p.readings) in
      brings_beside p lay Q r.state r.next all own segment sp ps rr m st x y f q first ls 2 ws a b d 12 13 end
      (Do (Two i false (Reg 13) (ToReg 12)) ∷ keep p.ir fn (suc d) 12)
      (subst (λ (xs : List Temporary). Stage p r.state r.next (level f q first xs ∷ ls) all own segment sp sp ps rr m st) top
      stage)
      (ap is_missing num.is_left) (ap is_missing num.is_right) depth parts (omega arith) (omega arith)
      (λ v w pc pc2 st2 y2 has_a has_b code2 stage2.
      let r1 : ℕ → ℕ = set_reg (set_reg (set_reg (set_reg rr 0 pc) 12 v) 0 pc2) 13 w in
      let here = from_do p f pc2 (Two i false (Reg 13) (ToReg 12)) (keep p.ir fn (suc d) 12) end code2 in
      let is_a : v ≡ wrapped num.left = subst (λ (z : Value). HasCode (value_code alive z) v) num.is_left has_a in
      let is_b : w ≡ wrapped num.right = subst (λ (z : Value). HasCode (value_code alive z) w) num.is_right has_b in
      operates p Q 1 r.state r.next (level f q first (temporary.Value a ∷ ws) ∷ ls) all own segment sp sp ps r1 m st2 x y2 o i
      plain stage2 here.0
      (λ r2 st3 y3 at_pc in_r12 stage3.
      let word : r2 12 ≡ result i (wrapped num.left) (wrapped num.right) =
      in_r12 ∙ ap (λ (z : ℕ). result i z w) is_a ∙ ap (λ (z : ℕ). result i (wrapped num.left) z) is_b in
      let computed_word : r2 12 ≡ wrapped num.result =
      computes_word o i t kind num.left num.right num.result (r2 12) plain wide num.computes word (stage3.words 12) in
      let has : HasCode (value_code alive c) (r2 12) =
      subst (λ (z : Value). HasCode (value_code alive z) (r2 12)) (sym num.is_result) computed_word in
      keeps_last p lay 0 f q (q + 1) first (suc d) 12 (r2 12) (temporary.Value c) (temporary.Value a ∷ ws) ls r all own segment
      sp ps r2 m st3 y3 stage3 low (subst (λ (z : ℕ). From p f z (keep p.ir fn (suc d) 12) end) (sym at_pc) here.1)
      (ap suc depth) room refl has)))))))

-- ---- comparisons

-- whatever they find
abbrev pub Any : State → Value → Value → Type 0
Any s a b = Unit {0}

-- operators that compare
pub data IsOrder : BinaryOp → Type 0 where
  Below : IsOrder op.Less
  Above : IsOrder op.Greater
  NotAbove : IsOrder op.LessEq
  NotBelow : IsOrder op.GreaterEq
  Same : IsOrder op.Equal
  Other : IsOrder op.NotEqual

order_word : (o : BinaryOp) (t own : IntType) (i j k : ℤ) (status : ℕ) → IsOrder o
    → binary o t (number t i) (number (right_type o t own) j) ≡ Ok k
    → wrapped k ≡ flag (is_taken (holds_where o (is_signed t)) (flags_by (is_back o) status (wrapped i) (wrapped j)))
unfolding binary
order_word o t own i j k status Below e = answer (int_lt (number t i) (number t j)) _ k e (less_taken t i j status)
order_word o t own i j k status Above e = answer (int_lt (number t j) (number t i)) _ k e (less_taken t j i status)
order_word o t own i j k status NotAbove e =
    answer (int_le (number t i) (number t j)) _ k e (reach_taken t j i status ∙ sym (not_above (number t i) (number t j)))
order_word o t own i j k status NotBelow e =
    answer (int_le (number t j) (number t i)) _ k e (reach_taken t i j status ∙ sym (not_above (number t j) (number t i)))
order_word o t own i j k status Same e = answer (int_eq (number t i) (number t j)) _ k e (same_taken t i j status)
order_word o t own i j k status Other e =
    answer (not (int_eq (number t i) (number t j))) _ k e (ap not (same_taken t i j status))

numbers_tell : (alive : List Placed) (o : BinaryOp) (t own : IntType) (a b c : Value) → IsOrder o → operated o t own a b ≡ Ok c
    → Tells alive (is_back o) (holds_where o (is_signed t)) a b c
numbers_tell alive o t own a b c order e =
    let num = are_numbers o t own a b c e in
    record {
      result = num.result;
      is = num.is_result;
      left = ap is_missing num.is_left;
      right = ap is_missing num.is_right;
      told = λ v w status small_v small_w has_a has_b.
          let is_a : v ≡ wrapped num.left = subst (λ (z : Value). HasCode (value_code alive z) v) num.is_left has_a in
          let is_b : w ≡ wrapped num.right = subst (λ (z : Value). HasCode (value_code alive z) w) num.is_right has_b in
          order_word o t own num.left num.right num.result status order num.computes
          ∙ ap (λ (z : ℕ). flag (is_taken (holds_where o (is_signed t)) (flags_by (is_back o) status z (wrapped num.right))))
          (sym is_a)
          ∙ ap (λ (z : ℕ). flag (is_taken (holds_where o (is_signed t)) (flags_by (is_back o) status v z))) (sym is_b);
    }

pub numbers_told : (p : Setting) (o : BinaryOp) (t own : IntType) → IsOrder o
    → IsTold p (operation.Integers o t own) (is_back o) (holds_where o (is_signed t)) Any
numbers_told p o t own Below = record {
  left = refl;
  right = refl;
  code = refl;
  flags = refl;
  condition = refl;
  asked = asked_by t;
  tells = λ s next a b c made any e. numbers_tell (placed p.core (kept s)) op.Less t own a b c Below e;
}
numbers_told p o t own Above = record {
  left = refl;
  right = refl;
  code = refl;
  flags = refl;
  condition = refl;
  asked = asked_by t;
  tells = λ s next a b c made any e. numbers_tell (placed p.core (kept s)) op.Greater t own a b c Above e;
}
numbers_told p o t own NotAbove = record {
  left = refl;
  right = refl;
  code = refl;
  flags = refl;
  condition = refl;
  asked = asked_from t;
  tells = λ s next a b c made any e. numbers_tell (placed p.core (kept s)) op.LessEq t own a b c NotAbove e;
}
numbers_told p o t own NotBelow = record {
  left = refl;
  right = refl;
  code = refl;
  flags = refl;
  condition = refl;
  asked = asked_from t;
  tells = λ s next a b c made any e. numbers_tell (placed p.core (kept s)) op.GreaterEq t own a b c NotBelow e;
}
numbers_told p o t own Same = record {
  left = refl;
  right = refl;
  code = refl;
  flags = refl;
  condition = refl;
  asked = AskZ;
  tells = λ s next a b c made any e. numbers_tell (placed p.core (kept s)) op.Equal t own a b c Same e;
}
numbers_told p o t own Other = record {
  left = refl;
  right = refl;
  code = refl;
  flags = refl;
  condition = refl;
  asked = AskNz;
  tells = λ s next a b c made any e. numbers_tell (placed p.core (kept s)) op.NotEqual t own a b c Other e;
}

pub beside_compare_does : (p : Setting) (lay : IsLaid p) (d : ℕ) (o : BinaryOp) (t own : IntType) → IsOrder o
    → DoesStep p 7 (step.Beside d (operation.Integers o t own))
beside_compare_does p lay d o t own order =
    where_always p 7 (step.Beside d (operation.Integers o t own)) (FindsTop Any) (λ s first ts a b ws is. tt)
    (beside_told p lay (operation.Integers o t own) (is_back o) (holds_where o (is_signed t)) Any (numbers_told p o t own order)
    d)
