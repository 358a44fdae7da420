-- Operators that a helper routine computes.
use Rattle.std.proofs.Common.{◌≡◌, ℕ, ◌+◌, refl, sym, ap, ◌∙◌, subst, arith, true, false, List, [], ◌∷◌, ◌++◌, drop}
use Rattle.std.proofs.lemmas.List.{append_assoc}
use Rattle.base16.specs.Integer.{wrapped}
use Rattle.base16.specs.declared.integer.IntType.{IntType}
use Rattle.base16.specs.declared.integer.IntType.TheVariants as int
use Rattle.base16.specs.declared.operator.BinaryOp.{BinaryOp}
use Rattle.base16.specs.declared.operator.BinaryOp.TheVariants as op
use Rattle.core430.specs.Registers.{set_reg}
use Rattle.rt430.specs.declared.words.Helper.{Helper}
use Rattle.rt430.specs.declared.words.Helper.TheVariants.{Mul16, Udiv16, Umod16, Sdiv16, Smod16, Shl, Shr, Sar}
use Rattle.c_run.specs.Actions.{kept}
use Rattle.c_values.specs.declared.value.Value.{Value}
use Rattle.cells430.specs.Stretch.{Course, outside}
use Rattle.ir.specs.declared.control.Temporary.TheVariants as temporary
use Rattle.ir.specs.declared.control.Control.TheVariants.{At}
use Rattle.ir.specs.declared.form.IrFunction.{IrFunction}
use Rattle.ir.specs.declared.form.Operand.{Operand}
use Rattle.ir.specs.declared.form.Operation.TheVariants as operation
use Rattle.ir.specs.declared.form.StepKind.TheVariants as step
use Rattle.ir.specs.Machine.{computed}
use Rattle.ir.specs.Table.{taken, is_helped}
use Rattle.ir.specs.Typed.{IsWide}
use Rattle.matching.specs.Matches.{Placed, placed}
use Rattle.select430.specs.Frames.{temporaries_at}
use Rattle.select430.specs.declared.part.Part.{Part}
use Rattle.select430.specs.declared.part.Part.TheVariants.{Helps}
use Rattle.select430.specs.Code.{bring, keep, operate}
use Rattle.steps430.specs.Setting.{Setting, function_of, step_at, IsLaid}
use Rattle.steps430.specs.Holds.{is_missing, HasCode, value_code}
use Rattle.steps430.specs.Standing.{StandsAt}
use Rattle.steps430.specs.Follows.{DoesStep}
use Rattle.steps430.proofs.Moves.{From, level}
use Rattle.steps430.proofs.Outcomes.{depth_follows, asked_follows}
use Rattle.steps430.proofs.Steps.{begins, falls, keeps_last}
use Rattle.steps430.proofs.Plain.{room_of}
use Rattle.steps430.proofs.Pairs.{operands_follow, brings_two}
use Rattle.steps430.proofs.Sums.{are_numbers}
use Rattle.steps430.proofs.Routines.{from_helps, helps_with}
use Rattle.steps430.proofs.Products.{IsHelped, Times, Signed_quotient, Quotient, Signed_remainder, Remainder, Left, Signed_right, Right, helper_value}

pub operate_is : (o : BinaryOp) (t : IntType) (which : Helper) → IsHelped o t which → operate o t ≡ Helps which ∷ []
operate_is o t which Times = refl
operate_is o t which Signed_quotient = refl
operate_is o t which Quotient = refl
operate_is o t which Signed_remainder = refl
operate_is o t which Remainder = refl
operate_is o t which Left = refl
operate_is o t which Signed_right = refl
operate_is o t which Right = refl

never : false ≡ true → ⊥
never e = cc

module _ (p : Setting) (lay : IsLaid p) where
  pub helped_by : (d : ℕ) (o : BinaryOp) (which : Helper) (t own : IntType) (left right : Operand) → IsHelped o t which → IsWide t
      → DoesStep p 404 (step.Binary d (operation.Integers o t own) left right)
  helped_by d o which t kind left right helped wide f q first ts ls node r u e h =
      begins p lay 404 _ (step.Binary d (operation.Integers o t kind) left right) f q first node ts ls r u e h
      (λ all own segment sp ps rr m st y stage low stands code.
      operands_follow p 404 _ node first left right ts _ r (λ a b us ws g k.
      depth_follows p 404 _ d ws _ r (λ depth.
      asked_follows p 404 _ node (λ s. computed s (operation.Integers o t kind) a b) _ r (λ c ok.
      let fn : IrFunction = function_of p f in
      let end : ℕ = step_at p f (q + 1) in
      let alive : List Placed = placed p.core (kept r.state) in
      let num = are_numbers o t kind a b c ok in
      let room = room_of (temporaries_at fn) d (taken left + taken right) 1 fn.frame stands.room (omega arith) in
      let there_a : is_missing a ≡ false = ap is_missing num.is_left in
      let there_b : is_missing b ≡ false = ap is_missing num.is_right in
      let whole = falls p lay (step.Binary d (operation.Integers o t kind) left right) f q node (rr 0) tt stands code in
      let split : From p f (rr 0) (bring p.ir fn left d 12 ++
      (bring p.ir fn right (d + taken left) 13 ++ (operate o t ++ keep p.ir fn d 12))) end =
      subst (λ (parts : List Part). From p f (rr 0) parts end)
      (append_assoc (bring p.ir fn left d 12) (bring p.ir fn right (d + taken left) 13) (operate o t ++ keep p.ir fn d 12))
      whole in
      let parts : From p f (rr 0) (bring p.ir fn left d 12 ++ (bring p.ir fn right (d + taken left) 13
      ++ (Helps which ∷ keep p.ir fn d 12))) end =
      subst (λ (xs : List Part). From p f (rr 0) (bring p.ir fn left d 12 ++
      (bring p.ir fn right (d + taken left) 13 ++ (xs ++ keep p.ir fn d 12))) end)
      (operate_is o t which helped) split in
      let Q = StandsAt p (At f (q + 1) first (temporary.Value c ∷ ws) ls) r in
      let x : Course = outside r.state.marks (drop r.used p.readings) in
      brings_two p lay Q r.state r.next all own segment sp ps rr m st x y f q first ls 402 left right ts us ws a b d 12 13 end
      (Helps which ∷ keep p.ir fn d 12) stage g k there_a there_b depth stands.named parts (omega arith) (omega arith)
      (λ v w pc pc2 st2 y2 has_a has_b code2 stage2.
      let r1 : ℕ → ℕ = set_reg (set_reg (set_reg (set_reg rr 0 pc) 12 v) 0 pc2) 13 w in
      let here = from_helps p f pc2 which (keep p.ir fn d 12) end code2 in
      let is_a : v ≡ wrapped num.left = subst (λ (z : Value). HasCode (value_code alive z) v) num.is_left has_a in
      let is_b : w ≡ wrapped num.right = subst (λ (z : Value). HasCode (value_code alive z) w) num.is_right has_b in
      let given = helper_value o t kind which num.left num.right num.result helped wide num.computes in
      helps_with p lay Q 1 r.state r.next (level f q first ws ∷ ls) all own segment sp sp ps r1 m st2 x y2 which f
      (wrapped num.left)
      (wrapped num.right) stage2 low here.0 is_a is_b given.0
      (λ r2 m2 st3 y3 at_pc in_r12 same stage3.
      let word : r2 12 ≡ wrapped num.result = in_r12 ∙ given.1 in
      let has : HasCode (value_code alive c) (r2 12) =
      subst (λ (z : Value). HasCode (value_code alive z) (r2 12)) (sym num.is_result) word in
      keeps_last p lay 0 f q (q + 1) first d 12 (r2 12) (temporary.Value c) ws ls r all own segment sp ps r2 m2 st3 y3 stage3 low
      (subst (λ (z : ℕ). From p f z (keep p.ir fn d 12) end) (sym at_pc) here.1) depth room refl has))))))

  -- each of them
  pub helped_does : (d : ℕ) (o : BinaryOp) (t own : IntType) (left right : Operand) → is_helped o ≡ true → IsWide t
      → DoesStep p 404 (step.Binary d (operation.Integers o t own) left right)
  helped_does d op.Mul t own left right e wide = helped_by d op.Mul Mul16 t own left right Times wide
  helped_does d op.Div int.Int own left right e wide = helped_by d op.Div Sdiv16 int.Int own left right Signed_quotient wide
  helped_does d op.Div int.UInt own left right e wide = helped_by d op.Div Udiv16 int.UInt own left right Quotient wide
  helped_does d op.Div int.Char own left right e wide = absurd wide
  helped_does d op.Rem int.Int own left right e wide = helped_by d op.Rem Smod16 int.Int own left right Signed_remainder wide
  helped_does d op.Rem int.UInt own left right e wide = helped_by d op.Rem Umod16 int.UInt own left right Remainder wide
  helped_does d op.Rem int.Char own left right e wide = absurd wide
  helped_does d op.Shl t own left right e wide = helped_by d op.Shl Shl t own left right Left wide
  helped_does d op.Shr int.Int own left right e wide = helped_by d op.Shr Sar int.Int own left right Signed_right wide
  helped_does d op.Shr int.UInt own left right e wide = helped_by d op.Shr Shr int.UInt own left right Right wide
  helped_does d op.Shr int.Char own left right e wide = absurd wide
  helped_does d op.Add t own left right e wide = absurd (never e)
  helped_does d op.Sub t own left right e wide = absurd (never e)
  helped_does d op.Less t own left right e wide = absurd (never e)
  helped_does d op.Greater t own left right e wide = absurd (never e)
  helped_does d op.LessEq t own left right e wide = absurd (never e)
  helped_does d op.GreaterEq t own left right e wide = absurd (never e)
  helped_does d op.Equal t own left right e wide = absurd (never e)
  helped_does d op.NotEqual t own left right e wide = absurd (never e)
  helped_does d op.And t own left right e wide = absurd (never e)
  helped_does d op.Xor t own left right e wide = absurd (never e)
  helped_does d op.Or t own left right e wide = absurd (never e)
