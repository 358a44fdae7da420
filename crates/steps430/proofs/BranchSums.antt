-- Jumps that are made where a sum, a difference or bits of two numbers are 0, or are not.
use Rattle.std.proofs.Common.{◌≡◌, ℕ, refl, Bool, [], ◌∷◌, ◌++◌}
use Rattle.base16.specs.declared.integer.IntType.{IntType}
use Rattle.base16.specs.declared.operator.BinaryOp.{BinaryOp}
use Rattle.isa430.specs.declared.instr.TwoOp.{TwoOp}
use Rattle.isa430.specs.declared.instr.Cond.TheVariants.{Nz}
use Rattle.ir.specs.declared.form.Operand.{Operand}
use Rattle.ir.specs.declared.form.Operation.TheVariants as operation
use Rattle.ir.specs.declared.form.Test.TheVariants as test
use Rattle.ir.specs.declared.form.StepKind.TheVariants as step
use Rattle.ir.specs.Typed.{IsWide}
use Rattle.select430.specs.Code.{against_zero, operate, test_flags, test_where}
use Rattle.steps430.specs.Setting.{Setting, IsLaid}
use Rattle.steps430.specs.Follows.{DoesStep}
use Rattle.steps430.proofs.BranchAny.{integers_test, branch_if}
use Rattle.steps430.proofs.Computing.{Anything, plain_computes}
use Rattle.steps430.proofs.Finding.{FindsTwo, where_always}
use Rattle.steps430.proofs.Sums.{IsPlain, Plus, Minus, Both, Either, Any}

flags_is : (o : BinaryOp) (m : TwoOp) (t own : IntType) → IsPlain o m
    → test_flags (operation.Integers o t own) ≡ operate o t ++ against_zero ∷ []
flags_is o m t own Plus = refl
flags_is o m t own Minus = refl
flags_is o m t own Both = refl
flags_is o m t own Either = refl
flags_is o m t own Any = refl

where_is : (o : BinaryOp) (m : TwoOp) (t own : IntType) → IsPlain o m → test_where (operation.Integers o t own) ≡ Nz
where_is o m t own Plus = refl
where_is o m t own Minus = refl
where_is o m t own Both = refl
where_is o m t own Either = refl
where_is o m t own Any = refl

module _ (p : Setting) (lay : IsLaid p) where
  pub branch_plain_does : (d : ℕ) (o : BinaryOp) (m : TwoOp) (t own : IntType) (left right : Operand) (of : IntType) (when : Bool)
      (to : ℕ) → IsPlain o m → IsWide t
      → DoesStep p 6 (step.Branch d (test.Computed (operation.Integers o t own) left right) of when to)
  branch_plain_does d o m t kind left right of when to plain wide =
      where_always p 6 (step.Branch d (test.Computed (operation.Integers o t kind) left right) of when to)
      (FindsTwo left right Anything) (λ s first ts a b us ws g k. tt)
      (branch_if p lay 1 d (operation.Integers o t kind) left right of when to Anything (plain_computes p o m t kind plain wide)
      (integers_test p o t kind (flags_is o m t kind plain) (where_is o m t kind plain)))
