-- Steps that compare two values, where the flags of their words tell how the comparison comes out.
use Rattle.std.proofs.Common.{◌≡◌, ℕ, suc, ◌+◌, ◌*◌, ◌<◌, ◌≤◌, refl, sym, ap, ◌∙◌, subst, arith, Bool, true, false, not, List, [], ◌∷◌, ◌++◌, length, drop, Ok, if◌then◌else◌}
use Rattle.std.proofs.lemmas.List.{append_assoc}
use Rattle.std.specs.Prelude.{ℤ}
use Rattle.base16.specs.Board.{segment_start}
use Rattle.base16.specs.Integer.{wrapped}
use Rattle.base16.specs.declared.integer.IntType.{IntType}
use Rattle.isa430.specs.declared.instr.TwoOp.TheVariants.{Cmp}
use Rattle.isa430.specs.declared.instr.Cond.{Cond}
use Rattle.isa430.specs.declared.instr.Instr.{Instr}
use Rattle.isa430.specs.declared.instr.Instr.TheVariants.{Two}
use Rattle.isa430.specs.declared.instr.Src.TheVariants.{Reg}
use Rattle.isa430.specs.declared.instr.Dst.TheVariants.{Reg as ToReg}
use Rattle.core430.specs.Arithmetic.{difference_status}
use Rattle.core430.specs.Registers.{set_reg}
use Rattle.core430.specs.Instructions.{is_taken}
use Rattle.ideal430.specs.Ideal.{Ideal, Meter}
use Rattle.ideal430.specs.Settled.{Bytes}
use Rattle.c_run.specs.Actions.{kept}
use Rattle.c_run.specs.Runs.{Run}
use Rattle.c_values.specs.Pointers.{truth_of}
use Rattle.c_values.specs.Values.{numbered}
use Rattle.c_values.specs.declared.state.State.{State}
use Rattle.c_values.specs.declared.value.Value.{Value}
use Rattle.c_values.specs.declared.value.Value.TheVariants.{Int}
use Rattle.cells430.specs.Cells.{Cells}
use Rattle.cells430.specs.Stretch.{Course, outside, at, Leads}
use Rattle.cells430.proofs.Lift.{leads_now}
use Rattle.ir.specs.declared.control.Temporary.{Temporary}
use Rattle.ir.specs.declared.control.Temporary.TheVariants as temporary
use Rattle.ir.specs.declared.control.Frame.{Frame}
use Rattle.ir.specs.declared.control.Control.TheVariants.{At}
use Rattle.ir.specs.declared.form.IrFunction.{IrFunction}
use Rattle.ir.specs.declared.form.Operand.{Operand}
use Rattle.ir.specs.declared.form.Operation.{Operation}
use Rattle.ir.specs.declared.form.StepKind.TheVariants as step
use Rattle.ir.specs.declared.form.Test.TheVariants as test
use Rattle.ir.specs.Machine.{act, computed, on_test, branch}
use Rattle.ir.specs.Table.{taken}
use Rattle.matching.specs.Laid.{IsMade}
use Rattle.matching.specs.Matches.{Placed, placed}
use Rattle.select430.specs.Frames.{temporaries_at}
use Rattle.select430.specs.declared.part.Part.{Part}
use Rattle.select430.specs.declared.part.Part.TheVariants.{Do, GoUnless}
use Rattle.select430.specs.Code.{bring, bring_temporary, keep, truth_where, opposite, left_register, right_register, perform, test_flags, test_where}
use Rattle.steps430.specs.Setting.{Setting, function_of, step_at, IsLaid}
use Rattle.steps430.specs.Holds.{is_missing, HasCode, value_code}
use Rattle.steps430.specs.Standing.{StandsAt, Stage}
use Rattle.steps430.proofs.Moves.{From, from_do, level, with_level}
use Rattle.steps430.proofs.Outcomes.{value_follows, depth_follows, asked_follows}
use Rattle.steps430.proofs.Steps.{begins, falls, stands_next, keeps_last}
use Rattle.steps430.proofs.Plain.{room_of}
use Rattle.steps430.proofs.Pairs.{operands_follow, brings_two}
use Rattle.steps430.proofs.Conditions.{flag, truth_sets, compares, compares_back}
use Rattle.steps430.proofs.Branches.{IsAsked, goes_unless, stays, truth_is}
use Rattle.steps430.proofs.Tests.{target_is}
use Rattle.steps430.proofs.Besides.{brings_beside}
use Rattle.steps430.proofs.Finding.{DoesWhere, FindsTwo, FindsTop}

-- ---- flags

-- R12 is compared with R13, or R13 with R12
abbrev pub comparing : Bool → Instr
comparing true = Two Cmp false (Reg 12) (ToReg 13)
comparing false = Two Cmp false (Reg 13) (ToReg 12)

-- the flags of their words then
abbrev pub flags_by : Bool → (status v w : ℕ) → ℕ
flags_by true status v w = difference_status false status false w v
flags_by false status v w = difference_status false status false v w

module _ (p : Setting) (Q : Ideal → Type 0) (n : ℕ) (s : State) (next : ℕ) (frames : List Frame) (all own : Cells)
    (segment base sp : ℕ) (ps r m : ℕ → ℕ) (st : Bytes) (x : Course) (y : Meter) where
  flags_set : (back : Bool) (f : ℕ) (more : List Part) (end : ℕ) → Stage p s next frames all own segment base sp ps r m st
      → From p f (r 0) (Do (comparing back) ∷ more) end
      → ((r2 : ℕ → ℕ) (st2 : Bytes) (y2 : Meter) → From p f (r2 0) more end → r2 2 ≡ flags_by back (r 2) (r 12) (r 13)
      → Stage p s next frames all own segment base sp ps r2 m st2 → Leads n (at segment ps r2 m st2 x y2) Q)
      → Leads (suc n) (at segment ps r m st x y) Q
  flags_set true f more end h code go =
      let c = from_do p f (r 0) (Two Cmp false (Reg 12) (ToReg 13)) more end code in
      compares_back p Q n s next frames all own segment base sp ps r m st x y h c.0
      (λ r2 st2 y2 at_pc in_flags stage. go r2 st2 y2 (subst (λ (i : ℕ). From p f i more end) (sym at_pc) c.1) in_flags stage)
  flags_set false f more end h code go =
      let c = from_do p f (r 0) (Two Cmp false (Reg 13) (ToReg 12)) more end code in
      compares p Q n s next frames all own segment base sp ps r m st x y h c.0
      (λ r2 st2 y2 at_pc in_flags stage. go r2 st2 y2 (subst (λ (i : ℕ). From p f i more end) (sym at_pc) c.1) in_flags stage)

-- ---- comparisons that flags tell

-- a comparison of two values gives 1 where a condition holds of the flags of their words, else 0
pub record Tells (alive : List Placed) (back : Bool) (cond : Cond) (a b c : Value) : Type 0 where
  pub result : ℤ
  pub is : c ≡ Int result
  pub left : is_missing a ≡ false
  pub right : is_missing b ≡ false
  pub told : (v w status : ℕ) → v < 65536 → w < 65536 → HasCode (value_code alive a) v → HasCode (value_code alive b) w
      → wrapped result ≡ flag (is_taken cond (flags_by back status v w))

-- The code of an operation is such a comparison, of values that are as they have to be.
pub record IsTold (p : Setting) (o : Operation) (back : Bool) (cond : Cond) (IsFine : State → Value → Value → Type 0)
    : Type 0 where
  pub left : left_register o ≡ 12
  pub right : right_register o ≡ 13
  pub code : perform o ≡ Do (comparing back) ∷ truth_where cond
  pub flags : test_flags o ≡ Do (comparing back) ∷ []
  pub condition : test_where o ≡ cond
  pub asked : IsAsked cond
  pub tells : (s : State) (next : ℕ) (a b c : Value) → IsMade p.core next (kept s) → IsFine s a b → computed s o a b ≡ Ok c
      → Tells (placed p.core (kept s)) back cond a b c

module _ (p : Setting) (lay : IsLaid p) (o : Operation) (back : Bool) (cond : Cond) (IsFine : State → Value → Value → Type 0)
    (h : IsTold p o back cond IsFine) where
  -- what is told of two registers becomes a temporary
  keeps_told : (f q first d : ℕ) (a b c : Value) (us : List Temporary) (ls : List Frame) (r : Run) (all own : Cells)
      (segment sp : ℕ) (ps rr m : ℕ → ℕ) (st : Bytes) (y : Meter)
      → Stage p r.state r.next (level f q first us ∷ ls) all own segment sp sp ps rr m st → segment_start segment + 4 ≤ sp
      → From p f (rr 0) (Do (comparing back) ∷ (truth_where cond ++ keep p.ir (function_of p f) d 12)) (step_at p f (q + 1))
      → Tells (placed p.core (kept r.state)) back cond a b c
      → HasCode (value_code (placed p.core (kept r.state)) a) (rr 12)
      → HasCode (value_code (placed p.core (kept r.state)) b) (rr 13)
      → length us ≡ d → temporaries_at (function_of p f) + 2 * d + 2 ≤ (function_of p f).frame
      → Leads 5 (at segment ps rr m st (outside r.state.marks (drop r.used p.readings)) y)
      (StandsAt p (At f (q + 1) first (temporary.Value c ∷ us) ls) r)
  keeps_told f q first d a b c us ls r all own segment sp ps rr m st y stage low code tells has_a has_b depth room =
      let fn : IrFunction = function_of p f in
      let end : ℕ = step_at p f (q + 1) in
      let alive : List Placed = placed p.core (kept r.state) in
      let Q = StandsAt p (At f (q + 1) first (temporary.Value c ∷ us) ls) r in
      let z : Course = outside r.state.marks (drop r.used p.readings) in
      flags_set p Q 4 r.state r.next (level f q first us ∷ ls) all own segment sp sp ps rr m st z y back f
      (truth_where cond ++ keep p.ir fn d 12) end stage code
      (λ r2 st2 y2 code2 in_flags stage2.
      truth_sets p Q 1 r.state r.next (level f q first us ∷ ls) all own segment sp sp ps r2 m st2 z y2 f cond
      (is_taken cond (r2 2)) (keep p.ir fn d 12) end stage2 refl code2
      (λ r3 st3 y3 in_r12 code3 stage3.
      let word : r3 12 ≡ wrapped tells.result =
      in_r12 ∙ ap (λ (i : ℕ). flag (is_taken cond i)) in_flags
      ∙ sym (tells.told (rr 12) (rr 13) (rr 2) (stage.words 12) (stage.words 13) has_a has_b) in
      keeps_last p lay 0 f q (q + 1) first d 12 (r3 12) (temporary.Value c) us ls r all own segment sp ps r3 m st3 y3 stage3 low
      code3 depth room refl (subst (λ (i : Value). HasCode (value_code alive i) (r3 12)) (sym tells.is) word)))

  pub binary_told : (d : ℕ) (left right : Operand) → DoesWhere p 7 (step.Binary d o left right) (FindsTwo left right IsFine)
  binary_told d left right f q first ts ls node r u e at_step fine =
      begins p lay 7 _ (step.Binary d o left right) f q first node ts ls r u e at_step
      (λ all own segment sp ps rr m st y stage low stands code.
      operands_follow p 7 _ node first left right ts _ r (λ a b us ws g k.
      depth_follows p 7 _ d ws _ r (λ depth.
      asked_follows p 7 _ node (λ s. computed s o a b) _ r (λ c ok.
      let fn : IrFunction = function_of p f in
      let end : ℕ = step_at p f (q + 1) in
      let tells = h.tells r.state r.next a b c stage.made (fine a b us ws g k) ok in
      let room = room_of (temporaries_at fn) d (taken left + taken right) 1 fn.frame stands.room (omega arith) in
      let A : List Part = bring p.ir fn left d 12 in
      let B : List Part = bring p.ir fn right (d + taken left) 13 in
      let last : List Part = keep p.ir fn d 12 in
      let whole = falls p lay (step.Binary d o left right) f q node (rr 0) tt stands code in
      let one : From p f (rr 0) ((A ++ bring p.ir fn right (d + taken left) (right_register o)) ++ (perform o ++ last)) end =
      subst (λ (i : ℕ). From p f (rr 0) ((bring p.ir fn left d i ++ bring p.ir fn right (d + taken left) (right_register o))
      ++ (perform o ++ last)) end) h.left whole in
      let two : From p f (rr 0) ((A ++ B) ++ (perform o ++ last)) end =
      subst (λ (i : ℕ). From p f (rr 0) ((A ++ bring p.ir fn right (d + taken left) i) ++ (perform o ++ last)) end) h.right one in
      let three : From p f (rr 0) ((A ++ B) ++ (Do (comparing back) ∷ (truth_where cond ++ last))) end =
      subst (λ (i : List Part). From p f (rr 0) ((A ++ B) ++ (i ++ last)) end) h.code two in
      let parts : From p f (rr 0) (A ++ (B ++ (Do (comparing back) ∷ (truth_where cond ++ last)))) end =
      subst (λ (i : List Part). From p f (rr 0) i end)
      (append_assoc A B (Do (comparing back) ∷ (truth_where cond ++ last))) three in
      let Q = StandsAt p (At f (q + 1) first (temporary.Value c ∷ ws) ls) r in
      let z : Course = outside r.state.marks (drop r.used p.readings) in
      brings_two p lay Q r.state r.next all own segment sp ps rr m st z y f q first ls 5 left right ts us ws a b d 12 13 end
      (Do (comparing back) ∷ (truth_where cond ++ last)) stage g k tells.left tells.right depth stands.named parts
      (omega arith) (omega arith)
      (λ v w pc pc2 st2 y2 has_a has_b code2 stage2.
      keeps_told f q first d a b c ws ls r all own segment sp ps
      (set_reg (set_reg (set_reg (set_reg rr 0 pc) 12 v) 0 pc2) 13 w) m st2 y2 stage2 low code2 tells has_a has_b depth room)))))

  pub beside_told : (d : ℕ) → DoesWhere p 7 (step.Beside d o) (FindsTop IsFine)
  beside_told d f q first ts ls node r u e at_step fine =
      begins p lay 7 _ (step.Beside d o) f q first node ts ls r u e at_step
      (λ all own segment sp ps rr m st y stage low stands code.
      value_follows p 7 _ ts _ r (λ b us is_ts.
      value_follows p 7 _ us _ r (λ a ws is_us.
      depth_follows p 7 _ d ws _ r (λ depth.
      asked_follows p 7 _ node (λ s. computed s o a b) _ r (λ c ok.
      let fn : IrFunction = function_of p f in
      let end : ℕ = step_at p f (q + 1) in
      let room : temporaries_at fn + 2 * suc d + 2 ≤ fn.frame = let h2 = stands.room in omega arith in
      let top : ts ≡ temporary.Value b ∷ temporary.Value a ∷ ws =
      is_ts ∙ ap (λ (xs : List Temporary). temporary.Value b ∷ xs) is_us in
      let tells = h.tells r.state r.next a b c stage.made (fine a b ws top) ok in
      let A : List Part = bring_temporary p.ir fn d 12 in
      let B : List Part = bring_temporary p.ir fn (suc d) 13 in
      let last : List Part = keep p.ir fn (suc d) 12 in
      let whole = falls p lay (step.Beside d o) f q node (rr 0) tt stands code in
      let one : From p f (rr 0) (A ++ (bring_temporary p.ir fn (suc d) (right_register o) ++ (perform o ++ last))) end =
      subst (λ (i : ℕ). From p f (rr 0) (bring_temporary p.ir fn d i
      ++ (bring_temporary p.ir fn (suc d) (right_register o) ++ (perform o ++ last))) end) h.left whole in
      let two : From p f (rr 0) (A ++ (B ++ (perform o ++ last))) end =
      subst (λ (i : ℕ). From p f (rr 0) (A ++ (bring_temporary p.ir fn (suc d) i ++ (perform o ++ last))) end) h.right one in
      let parts : From p f (rr 0) (A ++ (B ++ (Do (comparing back) ∷ (truth_where cond ++ last)))) end =
      subst (λ (i : List Part). From p f (rr 0) (A ++ (B ++ (i ++ last))) end) h.code two in
      let Q = StandsAt p (At f (q + 1) first (temporary.Value c ∷ temporary.Value a ∷ ws) ls) r in
      let z : Course = outside r.state.marks (drop r.used p.readings) in
      brings_beside p lay Q r.state r.next all own segment sp ps rr m st z y f q first ls 5 ws a b d 12 13 end
      (Do (comparing back) ∷ (truth_where cond ++ last))
      (subst (λ (xs : List Temporary). Stage p r.state r.next (level f q first xs ∷ ls) all own segment sp sp ps rr m st) top
      stage)
      tells.left tells.right depth parts (omega arith) (omega arith)
      (λ v w pc pc2 st2 y2 has_a has_b code2 stage2.
      keeps_told f q first (suc d) a b c (temporary.Value a ∷ ws) ls r all own segment sp ps
      (set_reg (set_reg (set_reg (set_reg rr 0 pc) 12 v) 0 pc2) 13 w) m st2 y2 stage2 low code2 tells has_a has_b (ap suc depth)
      room))))))

  pub branch_told : (d : ℕ) (left right : Operand) (of : IntType) (when : Bool) (to : ℕ)
      → DoesWhere p 5 (step.Branch d (test.Computed o left right) of when to) (FindsTwo left right IsFine)
  unfolding on_test
  branch_told d left right of when to f q first ts ls node r u e at_step fine =
      begins p lay 5 (act p.ir p.readings node (step.Branch d (test.Computed o left right) of when to) f q first ts ls r)
      (step.Branch d (test.Computed o left right) of when to) f q first node ts ls r u e at_step
      (λ all own segment sp ps rr m st y stage low stands code.
      operands_follow p 5 _ node first left right ts _ r (λ a b us ws g k.
      asked_follows p 5 _ node (λ s. computed s o a b) _ r (λ c ok.
      depth_follows p 5 _ d ws _ r (λ depth.
      asked_follows p 5 _ node (λ s. truth_of s (numbered of c)) _ r (λ yes sure.
      let fn : IrFunction = function_of p f in
      let end : ℕ = step_at p f (q + 1) in
      let tells = h.tells r.state r.next a b c stage.made (fine a b us ws g k) ok in
      let stay : Cond = if when then opposite cond else cond in
      let A : List Part = bring p.ir fn left d 12 in
      let B : List Part = bring p.ir fn right (d + taken left) 13 in
      let go : List Part = GoUnless stay to ∷ [] in
      let there : List Part = GoUnless (if when then opposite (test_where o) else test_where o) to ∷ [] in
      let whole = falls p lay (step.Branch d (test.Computed o left right) of when to) f q node (rr 0) tt stands code in
      let one : From p f (rr 0) (((A ++ bring p.ir fn right (d + taken left) (right_register o)) ++ test_flags o) ++ there) end =
      subst (λ (i : ℕ). From p f (rr 0) (((bring p.ir fn left d i ++ bring p.ir fn right (d + taken left) (right_register o))
      ++ test_flags o) ++ there) end) h.left whole in
      let two : From p f (rr 0) (((A ++ B) ++ test_flags o) ++ there) end =
      subst (λ (i : ℕ). From p f (rr 0) (((A ++ bring p.ir fn right (d + taken left) i) ++ test_flags o) ++ there) end) h.right
      one in
      let three : From p f (rr 0) (((A ++ B) ++ test_flags o) ++ go) end =
      subst (λ (i : Cond). From p f (rr 0) (((A ++ B) ++ test_flags o)
      ++ (GoUnless (if when then opposite i else i) to ∷ [])) end) h.condition two in
      let four : From p f (rr 0) (((A ++ B) ++ (Do (comparing back) ∷ [])) ++ go) end =
      subst (λ (i : List Part). From p f (rr 0) (((A ++ B) ++ i) ++ go) end) h.flags three in
      let five : From p f (rr 0) ((A ++ B) ++ (Do (comparing back) ∷ go)) end =
      subst (λ (i : List Part). From p f (rr 0) i end) (append_assoc (A ++ B) (Do (comparing back) ∷ []) go) four in
      let parts : From p f (rr 0) (A ++ (B ++ (Do (comparing back) ∷ go))) end =
      subst (λ (i : List Part). From p f (rr 0) i end) (append_assoc A B (Do (comparing back) ∷ go)) five in
      let Q = StandsAt p (At f (branch yes when to (q + 1)) first ws ls) r in
      let z : Course = outside r.state.marks (drop r.used p.readings) in
      brings_two p lay Q r.state r.next all own segment sp ps rr m st z y f q first ls 3 left right ts us ws a b d 12 13 end
      (Do (comparing back) ∷ go) stage g k tells.left tells.right depth stands.named parts (omega arith) (omega arith)
      (λ v w pc pc2 st2 y2 has_a has_b code2 stage2.
      let r1 : ℕ → ℕ = set_reg (set_reg (set_reg (set_reg rr 0 pc) 12 v) 0 pc2) 13 w in
      flags_set p Q 2 r.state r.next (level f q first ws ∷ ls) all own segment sp sp ps r1 m st2 z y2 back f go end stage2 code2
      (λ r2 st3 y3 code3 in_flags stage3.
      let word : wrapped tells.result ≡ flag (is_taken cond (r2 2)) =
      tells.told v w (r1 2) (stage2.words 12) (stage2.words 13) has_a has_b
      ∙ ap (λ (i : ℕ). flag (is_taken cond i)) (sym in_flags) in
      let truth : yes ≡ is_taken cond (r2 2) =
      truth_is r.state of c tells.result yes (is_taken cond (r2 2)) tells.is sure word in
      let skips : is_taken stay (r2 2) ≡ (if when then not yes else yes) =
      stays cond when (r2 2) h.asked ∙ ap (λ (i : Bool). if when then not i else i) (sym truth) in
      goes_unless p lay Q 0 r.state r.next (level f q first ws ∷ ls) all own segment sp sp ps r2 m st3 z y3 f to end stay
      (is_taken stay (r2 2)) stage3 refl code3
      (λ r3 st4 y4 at_target stage4.
      leads_now 0 _ Q
      (stands_next p lay f (branch yes when to (q + 1)) first ws ls r all own segment sp ps r3 m st4 y4
      (with_level p r.state r.next all own segment sp sp ps f q (branch yes when to (q + 1)) first ws ws ls r3 m st4
      (λ i j. j) stage4) low
      (at_target ∙ target_is p f to q yes (is_taken stay (r2 2)) when skips))))))))))
