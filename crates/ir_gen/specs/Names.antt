-- What the steps of a form name is there: objects, variables, functions with as many parameters as arguments come, channels
-- and tables.
use Rattle.std.specs.Prelude.{◌≡◌, ℕ, ◌<◌, length, Some, slice_get}
use Rattle.ir.specs.declared.form.Ir.{Ir}
use Rattle.ir.specs.declared.form.IrFunction.{IrFunction}
use Rattle.ir.specs.declared.form.Base.{Base}
use Rattle.ir.specs.declared.form.Base.TheVariants as base
use Rattle.ir.specs.declared.form.Operand.{Operand}
use Rattle.ir.specs.declared.form.Operand.TheVariants as operand
use Rattle.ir.specs.declared.form.Target.{Target}
use Rattle.ir.specs.declared.form.Target.TheVariants as target
use Rattle.ir.specs.declared.form.Test.{Test}
use Rattle.ir.specs.declared.form.Test.TheVariants as test
use Rattle.ir.specs.declared.form.Step.{Step}
use Rattle.ir.specs.declared.form.StepKind.{StepKind}
use Rattle.ir.specs.declared.form.StepKind.TheVariants as step

module _ (ir : Ir) (fn : IrFunction) where
  abbrev pub HasObject : Base → Type 0
  HasObject (base.Local n) = n < length fn.locals
  HasObject (base.Global n) = n < length ir.globals

  abbrev pub HasOperand : Operand → Type 0
  HasOperand (operand.Scalar of offset k) = HasObject of
  HasOperand _ = Unit {0}

  abbrev pub HasTarget : Target → Type 0
  HasTarget target.Temporary = Unit {0}
  HasTarget (target.Known of offset) = HasObject of

  abbrev pub HasTest : Test → Type 0
  HasTest (test.Value x) = HasOperand x
  HasTest (test.Computed o left right) = HasOperand left × HasOperand right

  -- what a step of the function names
  abbrev pub HasNames : StepKind → Type 0
  HasNames (step.Put d x) = HasOperand x
  HasNames (step.Convert d to x) = HasOperand x
  HasNames (step.Unary d o at x) = HasOperand x
  HasNames (step.Binary d o left right) = HasOperand left × HasOperand right
  HasNames (step.Truth d of x) = HasOperand x
  HasNames (step.Address d of offset) = HasObject of
  HasNames (step.Follow d x) = HasOperand x
  HasNames (step.Element d size own x) = HasOperand x
  HasNames (step.Sum d size left_type right_type swapped left right) = HasOperand left × HasOperand right
  HasNames (step.Store d to k x keeps) = HasTarget to × HasOperand x
  HasNames (step.StoreLocal d n offset k x keeps) = (n < length fn.locals) × HasOperand x
  HasNames (step.Update d to k o x keeps) = HasTarget to × HasOperand x
  HasNames (step.UpdateLocal d n offset k o x keeps) = (n < length fn.locals) × HasOperand x
  HasNames (step.Undefine n) = n < length fn.locals
  HasNames (step.Branch d t of when to) = HasTest t
  HasNames (step.Call d g n) = (called : IrFunction) × (slice_get ir.functions g ≡ Some called) × (called.params ≡ n)
  HasNames (step.Enter n) = n ≡ fn.params
  HasNames (step.Return d x) = HasOperand x
  HasNames (step.Sense d channel) = channel < 16
  HasNames (step.Emit d x) = HasOperand x
  HasNames (step.Stamp d n to k x) = (n < length ir.globals) × HasTarget to × HasOperand x
  HasNames (step.Timely d n from k limit to) = (n < length ir.globals) × HasTarget from
  HasNames (step.Open table to) = table < length ir.tables
  HasNames (step.Check table to) = table < length ir.tables
  HasNames (step.Close table to) = table < length ir.tables
  HasNames _ = Unit {0}

  -- the steps of a function
  abbrev pub AllNamed : Type 0
  AllNamed = (p : ℕ) (s : Step) → slice_get fn.steps p ≡ Some s → HasNames s.kind
