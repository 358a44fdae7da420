-- Where a run goes from a step: on in its function, into another one and out of one, and so from mark to mark.
use Rattle.std.specs.Prelude.{ℕ, zero, suc, ◌+◌, Bool, false, if◌then◌else◌, nat_eq, List, [], ◌∷◌, length}
use Rattle.base16.specs.declared.reading.Reading.{Reading}
use Rattle.c_values.specs.declared.value.Value.{Value}
use Rattle.c_values.specs.declared.value.Value.TheVariants.{Undefined}
use Rattle.c_values.specs.Values.{present, all_present}
use Rattle.c_run.specs.Runs.{Run, Outcome, Went, Stopped, Wrong, Action, and_then, ◌>>=◌, ◌>>◌, pure, given, changed}
use Rattle.c_run.specs.Actions.{enter, with_params}
use Rattle.ir.specs.declared.form.Ir.{Ir}
use Rattle.ir.specs.declared.form.IrFunction.{IrFunction}
use Rattle.ir.specs.declared.form.Operand.{Operand}
use Rattle.ir.specs.declared.form.StepKind.{StepKind}
use Rattle.ir.specs.declared.form.StepKind.TheVariants as step
use Rattle.ir.specs.declared.control.Control.{Control}
use Rattle.ir.specs.declared.control.Control.TheVariants.{At, Calling, Returning}
use Rattle.ir.specs.declared.control.Frame.{Frame}
use Rattle.ir.specs.declared.control.Temporary.{Temporary}
use Rattle.ir.specs.Machine as m
use Rattle.ir_steps.specs.Doing as d
use Rattle.ir_steps.specs.Doing.{Moved}

-- where a run stands behind a step that stays in its function
abbrev pub arrive : (function first : ℕ) → List Frame → Moved → Action Control
arrive f first below x = pure (At f x.to first x.temporaries below)

-- a function is called with the topmost values
abbrev pub calls : (node p first : ℕ) → (depth callee count function : ℕ) → List Temporary → List Frame → Action Control
calls node p first depth callee count f ts below = do
  a ← d.top_values count ts []
  d.at_depth depth a.rest
  given node (all_present a.value)
  pure (Calling callee depth a.value (m.waiting f p first a.rest ∷ below))

-- a function is left with a value
abbrev pub returns : (node first : ℕ) → ℕ → Operand → List Temporary → List Frame → Action Control
returns node first depth x ts below = do
  a ← d.operand_of node first x ts
  d.at_depth depth a.rest
  w ← given node (present a.value)
  m.left w below

-- a function is entered with its arguments
abbrev pub enters : ℕ → IrFunction → List Value → List Frame → Action Control
enters f fn args below = do
  first ← enter f fn.frame (m.objects_of fn)
  changed (with_params first (m.param_kinds fn) args)
  pure (At f 1 first [] below)

-- whether the outermost call was left
abbrev pub is_over : Control → Bool
is_over (Returning v below) = nat_eq (length below) 0
is_over c = false

module _ (ir : Ir) (rs : List Reading) where
  -- a step that stays in its function
  abbrev pub stays : (node p first : ℕ) → StepKind → (function : ℕ) → List Temporary → List Frame → Action Control
  stays node p first k f ts below = d.does ir rs node k p first ts >>= arrive f first below

  -- the caller goes on with what a call gave
  abbrev pub resumes : ℕ → Bool → Value → Frame → List Frame → Action Control
  resumes depth kept v b below = do
    d.at_depth depth b.temporaries
    pure (At b.function (b.position + 1) b.first (m.with_result ir rs kept v b.temporaries) below)

  -- a step at a place of a function, with the calls that wait below
  abbrev pub acts : ℕ → StepKind → (f p first : ℕ) → List Temporary → List Frame → Action Control
  acts node (step.Call depth g n) f p first ts below = calls node p first depth g n f ts below
  acts node (step.Return depth x) f p first ts below = returns node first depth x ts below
  acts node step.ReturnNothing f p first ts below = m.left Undefined below
  acts node k f p first ts below = stays node p first k f ts below

  -- where a run stands behind the next mark, if it makes at most so many steps before
  abbrev pub bursts : ℕ → Control → Run → Outcome Control
  bursts zero c r = Stopped Wrong
  bursts (suc n) c r = and_then (m.one_step ir rs c r) (λ e q. if nat_eq q.left r.left then bursts n e q else Went e q)

  -- how a run stops that may make so many marks, the last of which stops it
  abbrev pub marked : ℕ → Control → Run → Outcome Control
  marked zero c r = Stopped Wrong
  marked (suc n) c r = and_then (bursts (m.steps_in ir.functions) c r) (marked n)
