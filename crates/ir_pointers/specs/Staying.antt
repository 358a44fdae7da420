-- What stays true along a run of a form without blocks: its pointers are inside, and the objects that its steps may name came
-- to life.
use Rattle.std.specs.Prelude.{◌≡◌, ℕ, ◌+◌, ◌<◌, ◌≤◌, List, length, Some, slice_get}
use Rattle.base16.specs.declared.reading.Reading.{Reading}
use Rattle.core_tree.specs.LawfulCore.{Every}
use Rattle.c_values.specs.declared.value.Value.{Value}
use Rattle.c_values.specs.declared.value.Value.TheVariants.{Pointer}
use Rattle.c_values.specs.Extents.{end_of_cells}
use Rattle.c_run.specs.Runs.{Run, Went}
use Rattle.ir.specs.declared.control.Control.{Control}
use Rattle.ir.specs.declared.control.Control.TheVariants.{At, Calling, Returning}
use Rattle.ir.specs.declared.control.Frame.{Frame}
use Rattle.ir.specs.declared.form.Base.{Base}
use Rattle.ir.specs.declared.form.Base.TheVariants as base
use Rattle.ir.specs.declared.form.Ir.{Ir}
use Rattle.ir.specs.declared.form.IrFunction.{IrFunction}
use Rattle.ir.specs.declared.form.IrGlobal.{IrGlobal}
use Rattle.ir.specs.declared.form.Step.{Step}
use Rattle.ir.specs.declared.form.StepKind.{StepKind}
use Rattle.ir.specs.declared.form.StepKind.TheVariants as step
use Rattle.ir.specs.Inside.{PointsInside}
use Rattle.ir.specs.Machine.{initial_cells, one_step}
use Rattle.ir.specs.Typed.{AllTyped}

-- ---- what is asked of the functions of a form

module _ (ir : Ir) (fn : IrFunction) where
  abbrev pub HasBase : Base → Type 0
  HasBase (base.Local n) = n < length fn.locals
  HasBase (base.Global n) = n < length ir.globals

  -- a step that gives a known place names an object that is there
  abbrev pub HasPlace : StepKind → Type 0
  HasPlace (step.Address d of offset) = HasBase of
  HasPlace _ = Unit {0}

  abbrev pub AllPlaced : Type 0
  AllPlaced = (p : ℕ) (s : Step) → slice_get fn.steps p ≡ Some s → HasPlace s.kind

abbrev pub AllPlain : Ir → Type 0
AllPlain ir = (g : ℕ) (fn : IrFunction) → slice_get ir.functions g ≡ Some fn → AllTyped fn × AllPlaced ir fn

-- ---- what stays

module _ (ir : Ir) (next : ℕ) where
  -- the objects of a call, from a first number on, are among those that came to life
  abbrev pub IsBegun : (f first : ℕ) → Type 0
  IsBegun f first = (fn : IrFunction) → slice_get ir.functions f ≡ Some fn → first + length fn.locals ≤ next

  abbrev pub AreBegun : List Frame → Type 0
  AreBegun frames = Every (λ (b : Frame). IsBegun b.function b.first) frames

  -- those of the call that runs and of those that wait
  abbrev pub IsBegunControl : Control → Type 0
  IsBegunControl (At f p first ts below) = IsBegun f first × AreBegun below
  IsBegunControl (Calling f d args below) = AreBegun below
  IsBegunControl (Returning v below) = AreBegun below

-- where a run is at a control
pub record Inside (ir : Ir) (c : Control) (r : Run) : Type 0 where
  pub points : PointsInside c r
  pub variables : length ir.globals ≤ r.next
  pub begun : IsBegunControl ir r.next c

-- a value with which a variable starts: a pointer is to a variable, no further than to its end
abbrev pub StartsInside : Ir → Value → Type 0
StartsInside ir (Pointer n offset) = (n < length ir.globals)
    × ((g : IrGlobal) → slice_get ir.globals n ≡ Some g → offset ≤ end_of_cells (initial_cells g.scalars g.init))
StartsInside ir v = Unit {0}

abbrev pub AllStartInside : Ir → Type 0
AllStartInside ir = Every (λ (g : IrGlobal). Every (StartsInside ir) g.init) ir.globals

-- each step keeps it
abbrev pub StaysInside : Ir → List Reading → Type 0
StaysInside ir rs = (c d : Control) (r q : Run) → Inside ir c r → one_step ir rs c r ≡ Went d q → Inside ir d q
