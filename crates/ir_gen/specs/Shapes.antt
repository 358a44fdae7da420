-- The shapes of the steps that are made of a lawful program without annotated statements, each with what is known of it: what
-- it names is there, operators compute in `int` or `unsigned int`, and the label of a case is a value of its type.
use Rattle.std.specs.Prelude.{◌≡◌, ℕ, ◌<◌, ℤ, Bool, false, List, length, Some, slice_get}
use Rattle.base16.specs.declared.image.Kind.{Kind}
use Rattle.base16.specs.declared.integer.IntType.{IntType}
use Rattle.base16.specs.declared.operator.UnaryOp.{UnaryOp}
use Rattle.core_tree.specs.LawfulCore.{Every}
use Rattle.c_values.specs.Operators.{number}
use Rattle.ir.specs.declared.form.Ir.{Ir}
use Rattle.ir.specs.declared.form.IrFunction.{IrFunction}
use Rattle.ir.specs.declared.form.Base.{Base}
use Rattle.ir.specs.declared.form.Keep.{Keep}
use Rattle.ir.specs.declared.form.Operand.{Operand}
use Rattle.ir.specs.declared.form.Operand.TheVariants as operand
use Rattle.ir.specs.declared.form.Operation.{Operation}
use Rattle.ir.specs.declared.form.Step.{Step}
use Rattle.ir.specs.declared.form.StepKind.{StepKind}
use Rattle.ir.specs.declared.form.StepKind.TheVariants as step
use Rattle.ir.specs.declared.form.Target.{Target}
use Rattle.ir.specs.declared.form.Test.TheVariants as test
use Rattle.ir.specs.Typed.{IsTypedOperation, IsTypedUnary, HasParameters}
use Rattle.ir_gen.specs.Names.{HasObject, HasOperand, HasTarget}

-- a step of a function
pub data HasShape (ir : Ir) (fn : IrFunction) : StepKind → Type 0 where
  -- values
  put : (d : ℕ) (x : Operand) → HasOperand ir fn x → HasShape ir fn (step.Put d x)
  drop : (d : ℕ) → HasShape ir fn (step.Drop d)
  convert : (d : ℕ) (to : IntType) → HasShape ir fn (step.Convert d to operand.Temporary)
  unary : (d : ℕ) (o : UnaryOp) (t : IntType) → IsTypedUnary o t → HasShape ir fn (step.Unary d o t operand.Temporary)
  binary : (d : ℕ) (o : Operation) → IsTypedOperation o
      → HasShape ir fn (step.Binary d o operand.Temporary operand.Temporary)
  beside : (d : ℕ) (o : Operation) → IsTypedOperation o → HasShape ir fn (step.Beside d o)
  truth : (d : ℕ) (of : IntType) → HasShape ir fn (step.Truth d of operand.Temporary)
  -- places
  address : (d : ℕ) (of : Base) (offset : ℕ) → HasObject ir fn of → HasShape ir fn (step.Address d of offset)
  follow : (d : ℕ) → HasShape ir fn (step.Follow d operand.Temporary)
  member : (d offset : ℕ) → HasShape ir fn (step.Member d offset)
  element : (d size : ℕ) (own : IntType) → HasShape ir fn (step.Element d size own operand.Temporary)
  sum : (d size : ℕ) (left right : IntType) (swapped : Bool)
      → HasShape ir fn (step.Sum d size left right swapped operand.Temporary operand.Temporary)
  point : (d : ℕ) → HasShape ir fn (step.PointTo d)
  -- accesses
  load : (d : ℕ) (k : Kind) → HasShape ir fn (step.Load d k)
  peek : (d : ℕ) (k : Kind) → HasShape ir fn (step.Peek d k)
  store : (d : ℕ) (to : Target) (k : Kind) (x : Operand) (keeps : Keep) → HasTarget ir fn to → HasOperand ir fn x
      → HasShape ir fn (step.Store d to k x keeps)
  store_local : (d n offset : ℕ) (k : Kind) (x : Operand) (keeps : Keep) → n < length fn.locals → HasOperand ir fn x
      → HasShape ir fn (step.StoreLocal d n offset k x keeps)
  undefine : (n : ℕ) → n < length fn.locals → HasShape ir fn (step.Undefine n)
  -- ways
  jump : (to : ℕ) → HasShape ir fn (step.Jump to)
  unless : (d : ℕ) (t : IntType) (to : ℕ) → HasShape ir fn (step.Branch d (test.Value operand.Temporary) t false to)
  label : (d : ℕ) (of : IntType) (n : ℤ) (to : ℕ) → number of n ≡ n → HasShape ir fn (step.Case d of n to)
  turn : HasShape ir fn step.Turn
  -- calls
  called : (d g n : ℕ) (callee : IrFunction) → slice_get ir.functions g ≡ Some callee → callee.params ≡ n
      → HasShape ir fn (step.Call d g n)
  result : (d : ℕ) (keeps : Bool) → HasShape ir fn (step.Result d keeps)
  entered : (n : ℕ) → HasParameters fn n → HasShape ir fn (step.Enter n)
  returned : (d : ℕ) (x : Operand) → HasOperand ir fn x → HasShape ir fn (step.Return d x)
  left : HasShape ir fn step.ReturnNothing
  -- the outside
  sensed : (d channel : ℕ) → channel < 16 → HasShape ir fn (step.Sense d channel)
  emitted : (d : ℕ) → HasShape ir fn (step.Emit d operand.Temporary)
  checkpoint : (d : ℕ) → HasShape ir fn (step.Checkpoint d)

-- the steps of a function
abbrev pub HaveShapes : Ir → IrFunction → List Step → Type 0
HaveShapes ir fn steps = Every (λ (s : Step). HasShape ir fn s.kind) steps
