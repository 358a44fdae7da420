-- Which steps are typed as code is made for them: operators compute in `int` or `unsigned int`, an update compares nothing, the
-- label of a case is a value of its type, and no step is one of time.
use Rattle.std.specs.Prelude.{◌≡◌, ℕ, ◌≤◌, ◌<◌, List, [], ◌∷◌, length, take, false}
use Rattle.base16.specs.declared.image.Kind.{Kind}
use Rattle.base16.specs.declared.integer.IntType.{IntType}
use Rattle.base16.specs.declared.integer.IntType.TheVariants as int
use Rattle.base16.specs.declared.operator.BinaryOp.{BinaryOp}
use Rattle.base16.specs.declared.operator.UnaryOp.{UnaryOp}
use Rattle.base16.specs.declared.operator.UnaryOp.TheVariants as un
use Rattle.core_tree.specs.LawfulCore.{Every}
use Rattle.core_tree.specs.Rules.{is_comparison}
use Rattle.c_values.specs.Operators.{number}
use Rattle.ir.specs.declared.form.IrFunction.{IrFunction}
use Rattle.ir.specs.declared.form.IrLocal.{IrLocal}
use Rattle.ir.specs.declared.form.Operation.{Operation}
use Rattle.ir.specs.declared.form.Operation.TheVariants as operation
use Rattle.ir.specs.declared.form.Step.{Step}
use Rattle.ir.specs.declared.form.StepKind.{StepKind}
use Rattle.ir.specs.declared.form.StepKind.TheVariants as step
use Rattle.ir.specs.declared.form.Test.{Test}
use Rattle.ir.specs.declared.form.Test.TheVariants as test

-- int and unsigned keep all of a word
abbrev pub IsWide : IntType → Type 0
IsWide int.Char = ⊥
IsWide t = Unit {0}

-- ---- operators

abbrev pub IsTypedOperation : Operation → Type 0
IsTypedOperation (operation.Integers o t own) = IsWide t
IsTypedOperation o = Unit {0}

-- an update adds to a pointer or computes with integers
abbrev pub IsTypedUpdate : Operation → Type 0
IsTypedUpdate (operation.Integers o t own) = IsWide t × (is_comparison o ≡ false)
IsTypedUpdate (operation.PointerPlus minus size left right swapped) = Unit {0}
IsTypedUpdate o = ⊥

abbrev pub IsTypedUnary : UnaryOp → IntType → Type 0
IsTypedUnary un.Minus t = IsWide t
IsTypedUnary un.Complement t = IsWide t
IsTypedUnary o t = Unit {0}

abbrev pub IsTypedTest : Test → Type 0
IsTypedTest (test.Value x) = Unit {0}
IsTypedTest (test.Computed o left right) = IsTypedOperation o

-- ---- parameters

-- a parameter is one scalar
abbrev pub IsSingle : IrLocal → Type 0
IsSingle l = (k : Kind) × (l.scalars ≡ record { offset = 0; kind = k } ∷ [])

-- a function has so many parameters, its first locals
pub record HasParameters (fn : IrFunction) (n : ℕ) : Type 0 where
  pub count : fn.params ≡ n
  pub among : n ≤ length fn.locals
  pub single : Every IsSingle (take n fn.locals)

-- ---- steps

-- a step of a function
abbrev pub IsTyped : IrFunction → StepKind → Type 0
IsTyped fn (step.Beside d o) = IsTypedOperation o
IsTyped fn (step.Unary d o t x) = IsTypedUnary o t
IsTyped fn (step.Binary d o left right) = IsTypedOperation o
IsTyped fn (step.Update d to k o x keeps) = IsTypedUpdate o
IsTyped fn (step.UpdateLocal d n offset k o x keeps) = IsTypedUpdate o
IsTyped fn (step.Branch d t of when to) = IsTypedTest t
IsTyped fn (step.Case d of n to) = number of n ≡ n
IsTyped fn (step.Sense d channel) = channel < 16
IsTyped fn (step.Enter n) = HasParameters fn n
IsTyped fn (step.Stamp d n to k x) = ⊥
IsTyped fn (step.Timely d n from k limit to) = ⊥
IsTyped fn (step.Open t to) = ⊥
IsTyped fn (step.Check t to) = ⊥
IsTyped fn (step.Close t to) = ⊥
IsTyped fn k = Unit {0}

abbrev pub AllTyped : IrFunction → Type 0
AllTyped fn = Every (λ (s : Step). IsTyped fn s.kind) fn.steps
