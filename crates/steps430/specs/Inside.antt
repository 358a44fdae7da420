-- What it means that the code of a step does it where all pointers are inside.
use Rattle.std.specs.Prelude.{◌≡◌, ℕ, List, Some, slice_get}
use Rattle.c_run.specs.Runs.{Run}
use Rattle.c_values.specs.declared.value.Value.{Value}
use Rattle.ideal430.specs.Ideal.{Ideal}
use Rattle.ir.specs.declared.control.Frame.{Frame}
use Rattle.ir.specs.declared.control.Control.TheVariants.{At, Calling}
use Rattle.ir.specs.declared.control.Temporary.{Temporary}
use Rattle.ir.specs.declared.form.StepKind.{StepKind}
use Rattle.ir.specs.Inside.{PointsInside}
use Rattle.ir.specs.Machine.{act, act_enter}
use Rattle.ir.specs.Typed.{IsTyped}
use Rattle.steps430.specs.Setting.{Setting, function_of}
use Rattle.steps430.specs.Standing.{StandsAt}
use Rattle.steps430.specs.Follows.{Follows}

-- the code of a step does the step
abbrev pub DoesInside : Setting → (limit : ℕ) → StepKind → Type 0
DoesInside p limit k = (f q first : ℕ) (ts : List Temporary) (below : List Frame) (node : ℕ) (r : Run) (t : Ideal)
    → slice_get (function_of p f).steps q ≡ Some (record { node = node; kind = k })
    → PointsInside (At f q first ts below) r → StandsAt p (At f q first ts below) r t
    → Follows p limit (act p.ir p.readings node k f q first ts below r) t

-- the code at the entry of a function, which is typed, enters it
abbrev pub EntersInside : Setting → (limit : ℕ) → StepKind → Type 0
EntersInside p limit k = (f d : ℕ) (args : List Value) (below : List Frame) (node : ℕ) (r : Run) (t : Ideal)
    → IsTyped (function_of p f) k
    → slice_get (function_of p f).steps 0 ≡ Some (record { node = node; kind = k })
    → PointsInside (Calling f d args below) r → StandsAt p (Calling f d args below) r t
    → Follows p limit (act_enter p.ir p.readings k f (function_of p f) args below r) t
