-- The scalars that a step names are there.
use Rattle.std.proofs.Common.{◌≡◌, ℕ, ◌<◌, subst, List, ◌++◌, length}
use Rattle.core_tree.specs.LawfulCore.{Every}
use Rattle.core_tree.specs.declared.program.Core.{Core}
use Rattle.ir.specs.declared.form.Ir.{Ir}
use Rattle.ir.specs.declared.form.IrFunction.{IrFunction}
use Rattle.ir.specs.declared.form.Base.{Base}
use Rattle.ir.specs.declared.form.Base.TheVariants as base
use Rattle.ir.specs.declared.form.Operand.{Operand}
use Rattle.ir.specs.declared.form.Operand.TheVariants as operand
use Rattle.ir.specs.declared.form.Target.{Target}
use Rattle.ir.specs.declared.form.Target.TheVariants as target
use Rattle.ir.specs.declared.form.Test.{Test}
use Rattle.ir.specs.declared.form.Test.TheVariants as test
use Rattle.ir.specs.declared.form.StepKind.{StepKind}
use Rattle.ir.specs.declared.form.StepKind.TheVariants as step
use Rattle.ir_gen.specs.Names.{HasObject, HasOperand, HasTarget, HasTest, HasNames}
use Rattle.matching.proofs.Lying.{each_append}
use Rattle.steps430.specs.Setting.{IsNamed, operand_bases, target_bases, test_bases, bases_of}

module _ (core : Core) (ir : Ir) (fn : IrFunction) (many : length ir.globals ≡ length core.globals) where
  abbrev Named : List Base → Type 0
  Named bs = Every (IsNamed core fn) bs

  both : (xs ys : List Base) → Named xs → Named ys → Named (xs ++ ys)
  both xs ys h k = each_append (IsNamed core fn) xs ys h k

  object_named : (b : Base) → HasObject ir fn b → IsNamed core fn b
  object_named (base.Local n) h = h
  object_named (base.Global n) h = subst (λ (k : ℕ). n < k) many h

  operand_named : (x : Operand) → HasOperand ir fn x → Named (operand_bases x)
  operand_named operand.Temporary h = tt
  operand_named (operand.Constant z) h = tt
  operand_named operand.Null h = tt
  operand_named (operand.Scalar of offset k) h = (object_named of h, tt)

  target_named : (to : Target) → HasTarget ir fn to → Named (target_bases to)
  target_named target.Temporary h = tt
  target_named (target.Known of offset) h = (object_named of h, tt)

  test_named : (t : Test) → HasTest ir fn t → Named (test_bases t)
  test_named (test.Value x) h = operand_named x h
  test_named (test.Computed o left right) h =
      both (operand_bases left) (operand_bases right) (operand_named left h.0) (operand_named right h.1)

  pub named : (k : StepKind) → HasNames ir fn k → Named (bases_of k)
  named (step.Put d x) h = operand_named x h
  named (step.Nothing d) h = tt
  named (step.Drop d) h = tt
  named (step.Beside d o) h = tt
  named (step.Convert d to x) h = operand_named x h
  named (step.Unary d o t x) h = operand_named x h
  named (step.Binary d o left right) h =
      both (operand_bases left) (operand_bases right) (operand_named left h.0) (operand_named right h.1)
  named (step.Truth d of x) h = operand_named x h
  named (step.Address d of offset) h = (object_named of h, tt)
  named (step.Follow d x) h = operand_named x h
  named (step.Member d offset) h = tt
  named (step.Element d size own x) h = operand_named x h
  named (step.Sum d size left_type right_type swapped left right) h =
      both (operand_bases left) (operand_bases right) (operand_named left h.0) (operand_named right h.1)
  named (step.PointTo d) h = tt
  named (step.Load d k) h = tt
  named (step.Peek d k) h = tt
  named (step.Store d to k x keeps) h = both (target_bases to) (operand_bases x) (target_named to h.0) (operand_named x h.1)
  named (step.StoreLocal d n offset k x keeps) h = (h.0, operand_named x h.1)
  named (step.Update d to k o x keeps) h = both (target_bases to) (operand_bases x) (target_named to h.0) (operand_named x h.1)
  named (step.UpdateLocal d n offset k o x keeps) h = (h.0, operand_named x h.1)
  named (step.Undefine n) h = tt
  named (step.Jump to) h = tt
  named (step.Branch d t of when to) h = test_named t h
  named (step.Case d of n to) h = tt
  named (step.Call d f n) h = tt
  named (step.Result d keeps) h = tt
  named (step.Enter n) h = tt
  named (step.Return d x) h = operand_named x h
  named step.ReturnNothing h = tt
  named step.Turn h = tt
  named (step.Sense d channel) h = tt
  named (step.Emit d x) h = operand_named x h
  named (step.Checkpoint d) h = tt
  named (step.Stamp d n to k x) h = both (target_bases to) (operand_bases x) (target_named to h.1) (operand_named x h.2)
  named (step.Timely d n from k limit to) h = target_named from h.1
  named (step.Open t to) h = tt
  named (step.Check t to) h = tt
  named (step.Close t to) h = tt
