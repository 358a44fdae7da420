-- Steps that count the elements between two pointers.
use Rattle.std.proofs.Common.{◌≡◌, ℕ, suc, ◌+◌, ◌*◌, ◌≤◌, refl, ap, ◌∙◌, subst, arith, List, ◌∷◌, ◌++◌, drop, Result, Ok, Err}
use Rattle.core430.specs.Registers.{set_reg}
use Rattle.c_run.specs.Actions.{kept}
use Rattle.c_values.specs.declared.value.Value.{Value}
use Rattle.cells430.specs.Stretch.{Course, outside}
use Rattle.ir.specs.declared.control.Temporary.{Temporary}
use Rattle.ir.specs.declared.control.Temporary.TheVariants as temporary
use Rattle.ir.specs.declared.control.Control.TheVariants.{At}
use Rattle.ir.specs.declared.form.IrFunction.{IrFunction}
use Rattle.ir.specs.declared.form.Operation.TheVariants as operation
use Rattle.ir.specs.declared.form.StepKind.TheVariants as step
use Rattle.ir.specs.Machine.{computed}
use Rattle.matching.specs.Matches.{Placed, placed}
use Rattle.select430.specs.Frames.{temporaries_at}
use Rattle.select430.specs.declared.part.Part.{Part}
use Rattle.steps430.specs.Setting.{Setting, function_of, step_at, IsLaid}
use Rattle.steps430.specs.Holds.{is_missing, HasCode, value_code}
use Rattle.steps430.specs.Lying.{StayInside, ObjectsLie}
use Rattle.steps430.specs.Standing.{StandsAt, Stage}
use Rattle.steps430.proofs.Outcomes.{value_follows, depth_follows, asked_follows}
use Rattle.steps430.proofs.Steps.{begins, falls, keeps_last}
use Rattle.std.proofs.lemmas.List.{append_assoc}
use Rattle.std.specs.Prelude.{ℤ}
use Rattle.isa430.specs.declared.instr.TwoOp.TheVariants.{Sub}
use Rattle.c_values.specs.Pointers.{difference}
use Rattle.c_values.specs.Values.{int_value}
use Rattle.c_values.specs.declared.value.Value.TheVariants.{Int}
use Rattle.ir.specs.declared.form.Operand.{Operand}
use Rattle.ir.specs.Table.{taken}
use Rattle.select430.specs.Code.{bring, keep, two, counted}
use Rattle.steps430.proofs.Moves.{From, level}
use Rattle.steps430.proofs.Plain.{room_of}
use Rattle.steps430.proofs.Pairs.{operands_follow, brings_two}
use Rattle.steps430.proofs.Finding.{DoesWhere, FindsTwo, FindsTop}
use Rattle.steps430.proofs.Besides.{brings_beside}
use Rattle.steps430.proofs.Differences.{difference_is, counting, differs}

abbrev fine : Value → Result Value ℕ
fine v = Ok v

abbrev wrong : ℕ → Result Value ℕ
wrong n = Err n

-- a number that is a value
pub record IsCount (x : Result ℤ ℕ) (c : Value) : Type 0 where
  pub count : ℤ
  pub is : x ≡ Ok count
  pub value : Int count ≡ c

pub count_is : (x : Result ℤ ℕ) (c : Value) → int_value x ≡ Ok c → IsCount x c
count_is (Ok z) c e = record { count = z; is = refl; value = same (Int z) e }
  where
    same : (v : Value) → fine v ≡ fine c → v ≡ c
    same v k = cc
count_is (Err n) c e = absurd (differ e)
  where
    differ : wrong n ≡ fine c → ⊥
    differ k = cc

module _ (p : Setting) (lay : IsLaid p) (lie : ObjectsLie p) where
  pub difference_does : (d size : ℕ) (left right : Operand)
      → DoesWhere p (suc (suc (suc (counting size + 1)))) (step.Binary d (operation.Difference size) left right)
      (FindsTwo left right StayInside)
  difference_does d size left right f q first ts ls node r o e h inside =
      let limit : ℕ = suc (suc (suc (counting size + 1))) in
      begins p lay limit _ (step.Binary d (operation.Difference size) left right) f q first node ts ls r o e h
      (λ all own segment sp ps rr m st y stage low stands code.
      operands_follow p limit _ node first left right ts _ r (λ a b us ws g k.
      depth_follows p limit _ d ws _ r (λ depth.
      asked_follows p limit _ node (λ s. computed s (operation.Difference size) a b) _ r (λ c ok.
      let fn : IrFunction = function_of p f in
      let end : ℕ = step_at p f (q + 1) in
      let alive : List Placed = placed p.core (kept r.state) in
      let room = room_of (temporaries_at fn) d (taken left + taken right) 1 fn.frame stands.room (omega arith) in
      let n = count_is (difference r.state size a b) c ok in
      let diff = difference_is r.state size a b n.count n.is in
      let whole = falls p lay (step.Binary d (operation.Difference size) left right) f q node (rr 0) tt stands code in
      let Q = StandsAt p (At f (q + 1) first (temporary.Value c ∷ ws) ls) r in
      let x : Course = outside r.state.marks (drop r.used p.readings) in
      brings_two p lay Q r.state r.next all own segment sp ps rr m st x y f q first ls (suc (counting size + 1)) left right ts
      us ws a b
      d 12 13 end (two Sub 13 12 ∷ (counted size ++ keep p.ir fn d 12)) stage g k (ap is_missing diff.is_left)
      (ap is_missing diff.is_right) depth stands.named
      (subst (λ (parts : List Part). From p f (rr 0) parts end)
      (append_assoc (bring p.ir fn left d 12) (bring p.ir fn right (d + taken left) 13)
      (two Sub 13 12 ∷ (counted size ++ keep p.ir fn d 12))) whole)
      (omega arith) (omega arith)
      (λ v w pc pc2 st2 y2 has_a has_b code2 stage2.
      let r1 : ℕ → ℕ = set_reg (set_reg (set_reg (set_reg rr 0 pc) 12 v) 0 pc2) 13 w in
      differs p lay lie Q 1 r.state r.next (level f q first ws ∷ ls) all own segment sp sp ps x f end (keep p.ir fn d 12) size a b
      n.count
      r1 m st2 y2 low stage2 diff (inside a b us ws g k) has_a has_b code2
      (λ r2 m2 st3 y3 in_r12 spares code3 stage3.
      keeps_last p lay 0 f q (q + 1) first d 12 (r2 12) (temporary.Value c) ws ls r all own segment sp ps r2 m2 st3 y3 stage3 low
      code3 depth room refl (subst (λ (z : Value). HasCode (value_code alive z) (r2 12)) n.value in_r12)))))))

  pub beside_difference_does : (d size : ℕ)
      → DoesWhere p (suc (suc (suc (counting size + 1)))) (step.Beside d (operation.Difference size)) (FindsTop StayInside)
  beside_difference_does d size f q first ts ls node r o e h inside =
      let limit : ℕ = suc (suc (suc (counting size + 1))) in
      begins p lay limit _ (step.Beside d (operation.Difference size)) f q first node ts ls r o e h
      (λ all own segment sp ps rr m st y stage low stands code.
      value_follows p limit _ ts _ r (λ b us is_ts.
      value_follows p limit _ us _ r (λ a ws is_us.
      depth_follows p limit _ d ws _ r (λ depth.
      asked_follows p limit _ node (λ s. computed s (operation.Difference size) a b) _ r (λ c ok.
      let fn : IrFunction = function_of p f in
      let end : ℕ = step_at p f (q + 1) in
      let alive : List Placed = placed p.core (kept r.state) in
      let room : temporaries_at fn + 2 * suc d + 2 ≤ fn.frame = let h2 = stands.room in omega arith in
      let top : ts ≡ temporary.Value b ∷ temporary.Value a ∷ ws =
      is_ts ∙ ap (λ (xs : List Temporary). temporary.Value b ∷ xs) is_us in
      let n = count_is (difference r.state size a b) c ok in
      let diff = difference_is r.state size a b n.count n.is in
      let Q = StandsAt p (At f (q + 1) first (temporary.Value c ∷ temporary.Value a ∷ ws) ls) r in
      let x : Course = outside r.state.marks (drop r.used p.readings) in
      brings_beside p lay Q r.state r.next all own segment sp ps rr m st x y f q first ls (suc (counting size + 1)) ws a b d 12
      13 end
      (two Sub 13 12 ∷ (counted size ++ keep p.ir fn (suc d) 12))
      (subst (λ (xs : List Temporary). Stage p r.state r.next (level f q first xs ∷ ls) all own segment sp sp ps rr m st) top
      stage)
      (ap is_missing diff.is_left) (ap is_missing diff.is_right) depth
      (falls p lay (step.Beside d (operation.Difference size)) f q node (rr 0) tt stands code) (omega arith) (omega arith)
      (λ v w pc pc2 st2 y2 has_a has_b code2 stage2.
      let r1 : ℕ → ℕ = set_reg (set_reg (set_reg (set_reg rr 0 pc) 12 v) 0 pc2) 13 w in
      differs p lay lie Q 1 r.state r.next (level f q first (temporary.Value a ∷ ws) ∷ ls) all own segment sp sp ps x f end
      (keep p.ir fn (suc d) 12) size a b n.count r1 m st2 y2 low stage2 diff (inside a b ws top) has_a has_b code2
      (λ r2 m2 st3 y3 in_r12 spares code3 stage3.
      keeps_last p lay 0 f q (q + 1) first (suc d) 12 (r2 12) (temporary.Value c) (temporary.Value a ∷ ws) ls r all own segment
      sp ps
      r2 m2 st3 y3 stage3 low code3 (ap suc depth) room refl
      (subst (λ (z : Value). HasCode (value_code alive z) (r2 12)) n.value in_r12))))))))
