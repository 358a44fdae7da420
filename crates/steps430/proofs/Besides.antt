-- Two temporaries come into registers, of which the left one stays beside what is computed of them.
use Rattle.std.proofs.Common.{◌≡◌, ◌≢◌, ℕ, suc, ◌+◌, ◌*◌, ◌≤◌, refl, sym, ap, ◌∙◌, subst, arith, Bool, false, not, List, ◌∷◌, ◌++◌, length, drop, Option, if◌then◌else◌}
use Rattle.std.proofs.lemmas.Bool.{ne_eqb}
use Rattle.base16.specs.Integer.{wrapped}
use Rattle.base16.specs.declared.integer.IntType.{IntType}
use Rattle.base16.specs.declared.operator.BinaryOp.{BinaryOp}
use Rattle.core430.specs.Registers.{set_reg}
use Rattle.rt430.specs.declared.words.Helper.{Helper}
use Rattle.ideal430.specs.Ideal.{Ideal, Meter}
use Rattle.ideal430.specs.Settled.{Bytes}
use Rattle.c_run.specs.Actions.{kept}
use Rattle.c_values.specs.Pointers.{sum_of}
use Rattle.c_values.specs.declared.state.State.{State}
use Rattle.c_values.specs.declared.value.Value.{Value}
use Rattle.cells430.specs.Cells.{Cells}
use Rattle.cells430.specs.Stretch.{Course, outside, at, Leads}
use Rattle.ir.specs.declared.control.Temporary.{Temporary}
use Rattle.ir.specs.declared.control.Temporary.TheVariants as temporary
use Rattle.ir.specs.declared.control.Frame.{Frame}
use Rattle.ir.specs.declared.control.Control.TheVariants.{At}
use Rattle.ir.specs.declared.form.IrFunction.{IrFunction}
use Rattle.ir.specs.declared.form.Operation.TheVariants as operation
use Rattle.ir.specs.declared.form.StepKind.TheVariants as step
use Rattle.ir.specs.Machine.{computed, numbered_as}
use Rattle.ir.specs.Typed.{IsWide}
use Rattle.matching.specs.Matches.{Placed, placed}
use Rattle.select430.specs.Frames.{temporaries_at}
use Rattle.select430.specs.declared.part.Part.{Part}
use Rattle.select430.specs.declared.part.Part.TheVariants.{Helps}
use Rattle.select430.specs.Code.{bring_temporary, keep, moved}
use Rattle.steps430.specs.Setting.{Setting, function_of, step_at, IsLaid}
use Rattle.steps430.specs.Holds.{is_missing, HasCode, value_code}
use Rattle.steps430.specs.Standing.{StandsAt, Stage}
use Rattle.steps430.specs.Follows.{DoesStep}
use Rattle.steps430.proofs.Moves.{From, level, with_regs, without_top}
use Rattle.steps430.proofs.Outcomes.{value_follows, depth_follows, asked_follows}
use Rattle.steps430.proofs.Operands.{brings_top}
use Rattle.steps430.proofs.Steps.{begins, falls, keeps_last}
use Rattle.steps430.proofs.Sums.{are_numbers}
use Rattle.steps430.proofs.Routines.{from_helps, helps_with}
use Rattle.steps430.proofs.Products.{IsHelped, helper_value}
use Rattle.steps430.proofs.Helped.{operate_is}
use Rattle.steps430.proofs.Scaled.{scaling}
use Rattle.steps430.proofs.Sliding.{numbered_code, numbered_missing, slides}
use Rattle.steps430.proofs.Plus.{one_of, registers, in_pointer, in_number, in_pc, four_left, four_right, code_one, code_other, both_there, sum_is, pointer_to_is}

module _ (p : Setting) (lay : IsLaid p) (Q : Ideal → Type 0) (s : State) (next : ℕ) (all own : Cells) (segment sp : ℕ)
    (ps r m : ℕ → ℕ) (st : Bytes) (x : Course) (y : Meter) (f q first : ℕ) (ls : List Frame) where
  -- two temporaries come into two registers, and the right one is taken away
  pub brings_beside : (n : ℕ) (ws : List Temporary) (a b : Value) (d i j end : ℕ) (more : List Part)
      → Stage p s next (level f q first (temporary.Value b ∷ temporary.Value a ∷ ws) ∷ ls) all own segment sp sp ps r m st
      → is_missing a ≡ false → is_missing b ≡ false → length ws ≡ d
      → From p f (r 0) (bring_temporary p.ir (function_of p f) d i ++
      (bring_temporary p.ir (function_of p f) (suc d) j ++ more)) end
      → 4 ≤ i → 4 ≤ j
      → ((v w pc pc2 : ℕ) (st2 : Bytes) (y2 : Meter) → HasCode (value_code (placed p.core (kept s)) a) v
      → HasCode (value_code (placed p.core (kept s)) b) w → From p f pc2 more end
      → Stage p s next (level f q first (temporary.Value a ∷ ws) ∷ ls) all own segment sp sp ps
      (set_reg (set_reg (set_reg (set_reg r 0 pc) i v) 0 pc2) j w) m st2
      → Leads n (at segment ps (set_reg (set_reg (set_reg (set_reg r 0 pc) i v) 0 pc2) j w) m st2 x y2) Q)
      → Leads (suc (suc n)) (at segment ps r m st x y) Q
  brings_beside n ws a b d i j end more h there_a there_b depth code four_i four_j go =
      let fn : IrFunction = function_of p f in
      brings_top p lay Q s next all own segment sp ps r m st x y f q first ls (suc n) (temporary.Value a) ws d i end
      (bring_temporary p.ir fn (suc d) j ++ more)
      (without_top p s next all own segment sp sp ps f q q first (temporary.Value b) (temporary.Value a ∷ ws) ls r m st h)
      (ap not there_a) depth code four_i
      (λ v pc st2 y2 has code2 stage2.
      let r1 : ℕ → ℕ = set_reg (set_reg r 0 pc) i v in
      let n0 : 0 ≢ i = omega arith in
      let at_pc : r1 0 ≡ pc = simp (ne_eqb 0 i n0) in
      brings_top p lay Q s next all own segment sp ps r1 m st2 x y2 f q first ls n (temporary.Value b) (temporary.Value a ∷ ws)
      (suc d)
      j end more
      (with_regs p s next all own segment sp sp ps (level f q first (temporary.Value b ∷ temporary.Value a ∷ ws) ∷ ls) r m r1 st
      st2
      stage2.stack stage2.words stage2.facts h)
      (ap not there_b) (ap suc depth)
      (subst (λ (c : ℕ). From p f c (bring_temporary p.ir fn (suc d) j ++ more) end) (sym at_pc) code2) four_j
      (λ w pc2 st3 y3 has2 code3 stage3.
      go v w pc pc2 st3 y3 has has2 code3
      (without_top p s next all own segment sp sp ps f q q first (temporary.Value b) (temporary.Value a ∷ ws) ls
      (set_reg (set_reg r1 0 pc2) j w) m st3 stage3)))

module _ (p : Setting) (lay : IsLaid p) where
  pub beside_helped_does : (d : ℕ) (o : BinaryOp) (which : Helper) (t own : IntType) → IsHelped o t which → IsWide t
      → DoesStep p 404 (step.Beside d (operation.Integers o t own))
  beside_helped_does d o which t kind helped wide f q first ts ls node r u e h =
      begins p lay 404 _ (step.Beside d (operation.Integers o t kind)) f q first node ts ls r u e h
      (λ all own segment sp ps rr m st y stage low stands code.
      value_follows p 404 _ ts _ r (λ b us is_ts.
      value_follows p 404 _ us _ r (λ a ws is_us.
      depth_follows p 404 _ d ws _ r (λ depth.
      asked_follows p 404 _ node (λ s. computed s (operation.Integers o t kind) a b) _ r (λ c ok.
      let fn : IrFunction = function_of p f in
      let end : ℕ = step_at p f (q + 1) in
      let alive : List Placed = placed p.core (kept r.state) in
      let num = are_numbers o t kind a b c ok in
      let room : temporaries_at fn + 2 * suc d + 2 ≤ fn.frame = let h2 = stands.room in omega arith in
      let top : ts ≡ temporary.Value b ∷ temporary.Value a ∷ ws =
      is_ts ∙ ap (λ (xs : List Temporary). temporary.Value b ∷ xs) is_us in
      let parts : From p f (rr 0) (bring_temporary p.ir fn d 12 ++ (bring_temporary p.ir fn (suc d) 13
      ++ (Helps which ∷ keep p.ir fn (suc d) 12))) end =
      subst (λ (xs : List Part). From p f (rr 0) (bring_temporary p.ir fn d 12 ++ (bring_temporary p.ir fn (suc d) 13
      ++ (xs ++ keep p.ir fn (suc d) 12))) end)
      (operate_is o t which helped) (falls p lay (step.Beside d (operation.Integers o t kind)) f q node (rr 0) tt stands code) in
      let Q = StandsAt p (At f (q + 1) first (temporary.Value c ∷ temporary.Value a ∷ ws) ls) r in
      let x : Course = outside r.state.marks (drop r.used p.readings) in
      brings_beside p lay Q r.state r.next all own segment sp ps rr m st x y f q first ls 402 ws a b d 12 13 end
      (Helps which ∷ keep p.ir fn (suc d) 12)
      (subst (λ (xs : List Temporary). Stage p r.state r.next (level f q first xs ∷ ls) all own segment sp sp ps rr m st) top
      stage)
      (ap is_missing num.is_left) (ap is_missing num.is_right) depth parts (omega arith) (omega arith)
      (λ v w pc pc2 st2 y2 has_a has_b code2 stage2.
      let r1 : ℕ → ℕ = set_reg (set_reg (set_reg (set_reg rr 0 pc) 12 v) 0 pc2) 13 w in
      let here = from_helps p f pc2 which (keep p.ir fn (suc d) 12) end code2 in
      let is_a : v ≡ wrapped num.left = subst (λ (z : Value). HasCode (value_code alive z) v) num.is_left has_a in
      let is_b : w ≡ wrapped num.right = subst (λ (z : Value). HasCode (value_code alive z) w) num.is_right has_b in
      let given = helper_value o t kind which num.left num.right num.result helped wide num.computes in
      helps_with p lay Q 1 r.state r.next (level f q first (temporary.Value a ∷ ws) ∷ ls) all own segment sp sp ps r1 m st2 x y2
      which f
      (wrapped num.left) (wrapped num.right) stage2 low here.0 is_a is_b given.0
      (λ r2 m2 st3 y3 at_pc in_r12 same stage3.
      let has : HasCode (value_code alive c) (r2 12) =
      subst (λ (z : Value). HasCode (value_code alive z) (r2 12)) (sym num.is_result) (in_r12 ∙ given.1) in
      keeps_last p lay 0 f q (q + 1) first (suc d) 12 (r2 12) (temporary.Value c) (temporary.Value a ∷ ws) ls r all own segment
      sp ps
      r2 m2 st3 y3 stage3 low (subst (λ (z : ℕ). From p f z (keep p.ir fn (suc d) 12) end) (sym at_pc) here.1) (ap suc depth)
      room refl
      has)))))))

  pub beside_plus_does : (d : ℕ) (minus : Bool) (size : ℕ) (t u : Option IntType) (swapped : Bool)
      → DoesStep p (suc (suc (scaling minus size + 2))) (step.Beside d (operation.PointerPlus minus size t u swapped))
  beside_plus_does d minus size t u swapped f q first ts ls node r o e h =
      let limit : ℕ = suc (suc (scaling minus size + 2)) in
      begins p lay limit _ (step.Beside d (operation.PointerPlus minus size t u swapped)) f q first node ts ls r o e h
      (λ all own segment sp ps rr m st y stage low stands code.
      value_follows p limit _ ts _ r (λ b us is_ts.
      value_follows p limit _ us _ r (λ a ws is_us.
      depth_follows p limit _ d ws _ r (λ depth.
      asked_follows p limit _ node (λ s. computed s (operation.PointerPlus minus size t u swapped) a b) _ r (λ c ok.
      let fn : IrFunction = function_of p f in
      let end : ℕ = step_at p f (q + 1) in
      let alive : List Placed = placed p.core (kept r.state) in
      let room : temporaries_at fn + 2 * suc d + 2 ≤ fn.frame = let h2 = stands.room in omega arith in
      let top : ts ≡ temporary.Value b ∷ temporary.Value a ∷ ws =
      is_ts ∙ ap (λ (xs : List Temporary). temporary.Value b ∷ xs) is_us in
      let to = pointer_to_is (sum_of r.state swapped minus size (numbered_as t a) (numbered_as u b)) c ok in
      let sum = sum_is swapped r.state minus size t u a b to.location to.is in
      let there = both_there swapped r.state minus size (numbered_as t a) (numbered_as u b) to.location sum in
      let Q = StandsAt p (At f (q + 1) first (temporary.Value c ∷ temporary.Value a ∷ ws) ls) r in
      let x : Course = outside r.state.marks (drop r.used p.readings) in
      brings_beside p lay Q r.state r.next all own segment sp ps rr m st x y f q first ls (scaling minus size + 2) ws a b d
      (if swapped then 12 else 15) (if swapped then 15 else 12) end (moved minus size ++ keep p.ir fn (suc d) 12)
      (subst (λ (xs : List Temporary). Stage p r.state r.next (level f q first xs ∷ ls) all own segment sp sp ps rr m st) top
      stage)
      (numbered_missing t a ∙ there.0) (numbered_missing u b ∙ there.1) depth
      (falls p lay (step.Beside d (operation.PointerPlus minus size t u swapped)) f q node (rr 0) tt stands code)
      (four_left swapped) (four_right swapped)
      (λ v w pc pc2 st2 y2 has_a has_b code2 stage2.
      let r1 : ℕ → ℕ = registers swapped rr pc v pc2 w in
      let code_a = numbered_code alive t a v has_a in
      let code_b = numbered_code alive u b w has_b in
      slides p lay Q 1 r.state r.next (level f q first (temporary.Value a ∷ ws) ∷ ls) all own segment sp sp ps r1 m st2 x y2 f end
      (keep p.ir fn (suc d) 12) minus size (one_of swapped (numbered_as t a) (numbered_as u b))
      (one_of swapped (numbered_as u b) (numbered_as t a)) to.location low stage2 sum
      (subst (λ (z : ℕ). HasCode (value_code alive (one_of swapped (numbered_as t a) (numbered_as u b))) z)
      (sym (in_pointer swapped rr pc v pc2 w)) (code_one swapped alive (numbered_as t a) (numbered_as u b) v w code_a code_b))
      (subst (λ (z : ℕ). HasCode (value_code alive (one_of swapped (numbered_as u b) (numbered_as t a))) z)
      (sym (in_number swapped rr pc v pc2 w)) (code_other swapped alive (numbered_as t a) (numbered_as u b) v w code_a code_b))
      (subst (λ (z : ℕ). From p f z (moved minus size ++ keep p.ir fn (suc d) 12) end) (sym (in_pc swapped rr pc v pc2 w)) code2)
      (λ r2 m2 st3 y3 points spares code3 stage3.
      keeps_last p lay 0 f q (q + 1) first (suc d) 12 (r2 12) (temporary.Value c) (temporary.Value a ∷ ws) ls r all own segment
      sp ps
      r2 m2 st3 y3 stage3 low code3 (ap suc depth) room refl
      (subst (λ (z : Value). HasCode (value_code alive z) (r2 12)) to.pointer points.value))))))))
