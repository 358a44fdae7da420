-- Jumps that are made where the word of what an operation computes is 0, or is not.
use Rattle.std.proofs.Common.{◌≡◌, ◌≢◌, ℕ, suc, ◌+◌, refl, sym, ap, ◌∙◌, subst, arith, Bool, false, not, List, [], ◌∷◌, ◌++◌, drop, Ok, if◌then◌else◌}
use Rattle.std.proofs.lemmas.Bool.{eq-eqb, ne_eqb}
use Rattle.std.proofs.lemmas.List.{append_assoc}
use Rattle.std.specs.Prelude.{nat_eq}
use Rattle.base16.specs.Integer.{wrapped}
use Rattle.base16.specs.declared.integer.IntType.{IntType}
use Rattle.base16.specs.declared.operator.BinaryOp.{BinaryOp}
use Rattle.isa430.specs.declared.instr.Cond.{Cond}
use Rattle.isa430.specs.declared.instr.Cond.TheVariants.{Nz}
use Rattle.isa430.specs.declared.instr.TwoOp.TheVariants.{Cmp}
use Rattle.isa430.specs.declared.instr.Gen.TheVariants.{Zero}
use Rattle.isa430.specs.declared.instr.Src.TheVariants.{Constant}
use Rattle.isa430.specs.declared.instr.Dst.TheVariants.{Reg as ToReg}
use Rattle.isa430.specs.declared.instr.Instr.TheVariants.{Two}
use Rattle.core430.specs.Arithmetic.{difference_status}
use Rattle.core430.specs.Instructions.{is_taken}
use Rattle.core430.specs.Registers.{set_reg}
use Rattle.core430.specs.declared.operand.Place.TheVariants.{InRegister, Given}
use Rattle.run430.proofs.Operands.{to_register, constant as generated}
use Rattle.rt430.specs.declared.words.Helper.{Helper}
use Rattle.c_run.specs.Actions.{kept}
use Rattle.c_values.specs.Pointers.{truth_of, difference}
use Rattle.c_values.specs.Values.{numbered}
use Rattle.c_values.specs.declared.state.State.{State}
use Rattle.c_values.specs.declared.value.Value.{Value}
use Rattle.cells430.specs.Stretch.{Course, outside, at}
use Rattle.cells430.proofs.Lift.{sets, leads_now, leads_weaker}
use Rattle.ir.specs.declared.control.Control.TheVariants.{At}
use Rattle.ir.specs.declared.form.IrFunction.{IrFunction}
use Rattle.ir.specs.declared.form.Operand.{Operand}
use Rattle.ir.specs.declared.form.Operation.{Operation}
use Rattle.ir.specs.declared.form.Operation.TheVariants as operation
use Rattle.ir.specs.declared.form.Test.TheVariants as test
use Rattle.ir.specs.declared.form.StepKind.TheVariants as step
use Rattle.ir.specs.Machine.{act, computed, on_test, branch}
use Rattle.ir.specs.Table.{taken}
use Rattle.ir.specs.Typed.{IsWide}
use Rattle.matching.specs.Laid.{IsMade}
use Rattle.matching.specs.Matches.{Placed, placed}
use Rattle.select430.specs.declared.part.Part.{Part}
use Rattle.select430.specs.declared.part.Part.TheVariants.{GoUnless}
use Rattle.select430.specs.Code.{bring, opposite, against_zero, operate, perform, left_register, right_register, test_flags, test_where}
use Rattle.steps430.specs.Setting.{Setting, function_of, step_at, IsLaid}
use Rattle.steps430.specs.Holds.{HasCode, value_code}
use Rattle.steps430.specs.Lying.{StayInside, ObjectsLie}
use Rattle.steps430.specs.Standing.{StandsAt}
use Rattle.steps430.specs.Follows.{DoesStep}
use Rattle.steps430.proofs.Branches.{goes_unless}
use Rattle.steps430.proofs.Computing.{Anything, Computes, helped_computes, difference_computes}
use Rattle.steps430.proofs.Differences.{counting}
use Rattle.steps430.proofs.Finding.{DoesWhere, FindsTwo, where_always}
use Rattle.steps430.proofs.Minus.{count_is}
use Rattle.steps430.proofs.Moves.{From, from_do, level, with_regs, with_level}
use Rattle.steps430.proofs.Outcomes.{depth_follows, asked_follows}
use Rattle.steps430.proofs.Pairs.{operands_follow, brings_two}
use Rattle.steps430.proofs.Products.{IsHelped, Times, Signed_quotient, Quotient, Signed_remainder, Remainder, Left, Signed_right, Right}
use Rattle.steps430.proofs.Steps.{begins, falls, stands_next}
use Rattle.steps430.proofs.Sums.{are_numbers}
use Rattle.steps430.proofs.Tests.{truth_word, target_is, stays}

-- What an operation computes is compared with 0, and its word tells whether it is true.
pub record TestsZero (p : Setting) (op : Operation) (IsFine : State → Value → Value → Type 0) : Type 0 where
  pub flags : test_flags op ≡ perform op ++ against_zero ∷ []
  pub condition : test_where op ≡ Nz
  pub tells : (s : State) (next : ℕ) (of : IntType) (a b c : Value) (yes : Bool) (w : ℕ) → IsMade p.core next (kept s)
      → IsFine s a b → computed s op a b ≡ Ok c → truth_of s (numbered of c) ≡ Ok yes
      → HasCode (value_code (placed p.core (kept s)) c) w → yes ≡ not (nat_eq w 0)

-- ---- operators on integers

pub integers_test : (p : Setting) (o : BinaryOp) (t own : IntType)
    → test_flags (operation.Integers o t own) ≡ operate o t ++ against_zero ∷ [] → test_where (operation.Integers o t own) ≡ Nz
    → TestsZero p (operation.Integers o t own) Anything
integers_test p o t kind flags condition = record {
  flags = flags;
  condition = condition;
  tells = λ s next of a b c yes w made fine e sure has.
      let num = are_numbers o t kind a b c e in
      let is : w ≡ wrapped num.result =
      subst (λ (z : Value). HasCode (value_code (placed p.core (kept s)) z) w) num.is_result has in
      truth_word s of c num.result yes num.is_result sure ∙ ap (λ (z : ℕ). not (nat_eq z 0)) (sym is);
}

helped_flags : (o : BinaryOp) (t own : IntType) (which : Helper) → IsHelped o t which
    → test_flags (operation.Integers o t own) ≡ operate o t ++ against_zero ∷ []
helped_flags o t own which Times = refl
helped_flags o t own which Signed_quotient = refl
helped_flags o t own which Quotient = refl
helped_flags o t own which Signed_remainder = refl
helped_flags o t own which Remainder = refl
helped_flags o t own which Left = refl
helped_flags o t own which Signed_right = refl
helped_flags o t own which Right = refl

helped_where : (o : BinaryOp) (t own : IntType) (which : Helper) → IsHelped o t which
    → test_where (operation.Integers o t own) ≡ Nz
helped_where o t own which Times = refl
helped_where o t own which Signed_quotient = refl
helped_where o t own which Quotient = refl
helped_where o t own which Signed_remainder = refl
helped_where o t own which Remainder = refl
helped_where o t own which Left = refl
helped_where o t own which Signed_right = refl
helped_where o t own which Right = refl

-- ---- the step

module _ (p : Setting) (lay : IsLaid p) where
  pub branch_if : (cost d : ℕ) (op : Operation) (left right : Operand) (of : IntType) (when : Bool) (to : ℕ)
      (IsFine : State → Value → Value → Type 0) → Computes p cost op IsFine → TestsZero p op IsFine
      → DoesWhere p (cost + 5) (step.Branch d (test.Computed op left right) of when to) (FindsTwo left right IsFine)
  unfolding on_test
  branch_if cost d op left right of when to IsFine does zero f q first ts ls node r u e h finds =
      let limit : ℕ = cost + 5 in
      begins p lay limit (act p.ir p.readings node (step.Branch d (test.Computed op left right) of when to) f q first ts
      ls r) (step.Branch d (test.Computed op left right) of when to) f q first node ts ls r u e h
      (λ all own segment sp ps rr m st y stage low stands code.
      operands_follow p limit _ node first left right ts _ r (λ a b us ws g k.
      asked_follows p limit _ node (λ s. computed s op a b) _ r (λ c ok.
      depth_follows p limit _ d ws _ r (λ depth.
      asked_follows p limit _ node (λ s. truth_of s (numbered of c)) _ r (λ yes sure.
      let fn : IrFunction = function_of p f in
      let end : ℕ = step_at p f (q + 1) in
      let i : ℕ = left_register op in
      let j : ℕ = right_register op in
      let above_i = does.first in
      let above_j = does.second in
      let n0 : i ≢ 0 = omega arith in
      let n0j : 0 ≢ j = omega arith in
      let alive : List Placed = placed p.core (kept r.state) in
      let fine = finds a b us ws g k in
      let there = does.there r.state a b c fine ok in
      let stay : Cond = if when then opposite Nz else Nz in
      let A : List Part = bring p.ir fn left d i in
      let B : List Part = bring p.ir fn right (d + taken left) j in
      let G : List Part = GoUnless stay to ∷ [] in
      let whole = falls p lay (step.Branch d (test.Computed op left right) of when to) f q node (rr 0) tt stands code in
      let one : From p f (rr 0) (((A ++ B) ++ test_flags op) ++ G) end =
      subst (λ (z : Cond). From p f (rr 0) (((A ++ B) ++ test_flags op)
      ++ (GoUnless (if when then opposite z else z) to ∷ [])) end) zero.condition whole in
      let two : From p f (rr 0) (((A ++ B) ++ (perform op ++ against_zero ∷ [])) ++ G) end =
      subst (λ (z : List Part). From p f (rr 0) (((A ++ B) ++ z) ++ G) end) zero.flags one in
      let three : From p f (rr 0) ((A ++ B) ++ ((perform op ++ against_zero ∷ []) ++ G)) end =
      subst (λ (z : List Part). From p f (rr 0) z end) (append_assoc (A ++ B) (perform op ++ against_zero ∷ []) G) two in
      let four : From p f (rr 0) ((A ++ B) ++ (perform op ++ (against_zero ∷ G))) end =
      subst (λ (z : List Part). From p f (rr 0) ((A ++ B) ++ z) end) (append_assoc (perform op) (against_zero ∷ []) G) three in
      let parts : From p f (rr 0) (A ++ (B ++ (perform op ++ (against_zero ∷ G)))) end =
      subst (λ (z : List Part). From p f (rr 0) z end) (append_assoc A B (perform op ++ (against_zero ∷ G))) four in
      let Q = StandsAt p (At f (branch yes when to (q + 1)) first ws ls) r in
      let x : Course = outside r.state.marks (drop r.used p.readings) in
      leads_weaker (suc (suc (cost + 3))) limit (at segment ps rr m st x y) Q Q (omega arith) (λ v z. z)
      (brings_two p lay Q r.state r.next all own segment sp ps rr m st x y f q first ls (cost + 3) left right ts us ws a b d i j
      end (perform op ++ (against_zero ∷ G)) stage g k there.0 there.1 depth stands.named parts
      (omega arith) (omega arith)
      (λ v w pc pc2 st2 y2 has_a has_b code2 stage2.
      let r1 : ℕ → ℕ = set_reg (set_reg (set_reg (set_reg rr 0 pc) i v) 0 pc2) j w in
      let at1 : r1 0 ≡ pc2 = simp (ne_eqb 0 j n0j) in
      let in_i : r1 i ≡ v = simp (ne_eqb i j does.apart, ne_eqb i 0 n0, eq-eqb i i refl) in
      let in_j : r1 j ≡ w = simp (eq-eqb j j refl) in
      does.performs Q 3 r.state r.next (level f q first ws ∷ ls) all own segment sp sp ps r1 m st2 x y2
      f end (against_zero ∷ G) a b c low stage2 fine ok
      (subst (λ (z : ℕ). HasCode (value_code alive a) z) (sym in_i) has_a)
      (subst (λ (z : ℕ). HasCode (value_code alive b) z) (sym in_j) has_b)
      (subst (λ (z : ℕ). From p f z (perform op ++ (against_zero ∷ G)) end) (sym at1) code2)
      (λ r2 m2 st3 y3 has spares code3 stage3.
      let c0 = from_do p f (r2 0) (Two Cmp false (Constant Zero) (ToReg 12)) G end code3 in
      let r3 : ℕ → ℕ = set_reg (set_reg r2 0 (r2 0 + 2)) 2 (difference_status false (r2 2) false (r2 12) 0) in
      sets p.code p.low p.high segment sp ps stage3.ground Q 2 all stage3.shape r2 m2 st3 x y3 Cmp false (Constant Zero)
      (ToReg 12)
      (Given 0) (InRegister 12) r3 stage3.facts stage3.words c0.0 generated to_register refl tt tt refl stage3.stack
      (λ st4 y4 facts4 wide4.
      let stage4 = with_regs p r.state r.next all own segment sp sp ps (level f q first ws ∷ ls) r2 m2 r3 st3 st4 stage3.stack
      wide4 facts4 stage3 in
      let truth : yes ≡ not (nat_eq (r2 12) 0) = zero.tells r.state r.next of a b c yes (r2 12) stage.made fine ok sure has in
      let skips : is_taken stay (r3 2) ≡ (if when then not yes else yes) =
      stays when (r2 2) (r2 12) (stage3.words 12) ∙ ap (λ (z : Bool). if when then not z else z) (sym truth) in
      goes_unless p lay Q 0 r.state r.next (level f q first ws ∷ ls) all own segment sp sp ps r3 m2 st4 x y4 f to end stay
      (is_taken stay (r3 2)) stage4 refl c0.1
      (λ r4 st5 y5 at_target stage5.
      leads_now 0 _ Q
      (stands_next p lay f (branch yes when to (q + 1)) first ws ls r all own segment sp ps r4 m2 st5 y5
      (with_level p r.state r.next all own segment sp sp ps f q (branch yes when to (q + 1)) first ws ws ls r4 m2 st5
      (λ z j. j) stage5) low
      (at_target ∙ target_is p f to q yes (is_taken stay (r3 2)) when skips))))))))))))

  pub branch_difference_does : ObjectsLie p → (d size : ℕ) (left right : Operand) (of : IntType) (when : Bool) (to : ℕ)
      → DoesWhere p (counting size + 1 + 5) (step.Branch d (test.Computed (operation.Difference size) left right) of when to)
      (FindsTwo left right StayInside)
  branch_difference_does lie d size left right of when to =
      branch_if (counting size + 1) d (operation.Difference size) left right of when to StayInside
      (difference_computes p lay lie size)
      (record {
        flags = refl;
        condition = refl;
        tells = λ s next of a b c yes w made fine e sure has.
            let n = count_is (difference s size a b) c e in
            let is : w ≡ wrapped n.count =
            subst (λ (z : Value). HasCode (value_code (placed p.core (kept s)) z) w) (sym n.value) has in
            truth_word s of c n.count yes (sym n.value) sure ∙ ap (λ (z : ℕ). not (nat_eq z 0)) (sym is);
      })

  pub branch_helped_does : (d : ℕ) (o : BinaryOp) (t own : IntType) (left right : Operand) (of : IntType) (when : Bool) (to : ℕ)
      (which : Helper) → IsHelped o t which → IsWide t
      → DoesStep p 406 (step.Branch d (test.Computed (operation.Integers o t own) left right) of when to)
  branch_helped_does d o t kind left right of when to which helped wide =
      where_always p 406 (step.Branch d (test.Computed (operation.Integers o t kind) left right) of when to)
      (FindsTwo left right Anything) (λ s first ts a b us ws g k. tt)
      (branch_if 401 d (operation.Integers o t kind) left right of when to Anything
      (helped_computes p lay o which t kind helped wide)
      (integers_test p o t kind (helped_flags o t kind which helped) (helped_where o t kind which helped)))
