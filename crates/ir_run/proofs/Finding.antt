-- The step at a place of a function, where there is one and where there is none.
use Rattle.std.proofs.Common.{◌≡◌, ℕ, ◌+◌, Bool, true, false, cond, List, ◌∷◌, length, Option, Some, None, slice_get, Result, subst, sym, ap, ◌∙◌, refl}
use Rattle.std.specs.Prelude.{nat_eq}
use Rattle.base16.specs.declared.reading.Reading.{Reading}
use Rattle.c_run.specs.declared.halt.Halt.{Halt}
use Rattle.c_values.specs.declared.value.Value.{Value}
use Rattle.c_run.specs.Runs.{Run, Outcome, Stopped, Wrong, Action, and_then, pure}
use Rattle.ir.specs.declared.form.Ir.{Ir}
use Rattle.ir.specs.declared.form.IrFunction.{IrFunction}
use Rattle.ir.specs.declared.form.Step.{Step}
use Rattle.ir.specs.declared.form.StepKind.{StepKind}
use Rattle.ir.specs.declared.form.StepKind.TheVariants as step
use Rattle.ir.specs.declared.control.Frame.{Frame}
use Rattle.ir.specs.declared.control.Control.{Control}
use Rattle.ir.specs.declared.control.Control.TheVariants.{At, Calling, Returning}
use Rattle.ir.specs.Machine as m
use Rattle.ir_steps.specs.Doing as d
use Rattle.ir_run.specs.Going as going
use Rattle.ir_run.specs.Giving.{Steps}

module _ (ir : Ir) (rs : List Reading) (f p : ℕ) (go : IrFunction → Step → Action Control) (r : Run) where
  pub steps_there : (fn : IrFunction) (s : Step) (result : Result Control Halt) (q : Run) → slice_get ir.functions f ≡ Some fn
      → slice_get fn.steps p ≡ Some s → Steps (go fn s r) result q → Steps (m.step_in ir rs f p go r) result q
  unfolding m.step_in m.found
  steps_there fn s result q e1 e2 h =
      subst (λ (o : Option IrFunction). Steps (m.found o (λ fn. m.found (slice_get fn.steps p) (go fn)) r) result q) (sym e1)
      (subst (λ (o : Option Step). Steps (m.found o (go fn) r) result q) (sym e2) h)

  pub no_function : slice_get ir.functions f ≡ None → m.step_in ir rs f p go r ≡ Stopped Wrong
  unfolding m.step_in m.found
  no_function e = ap (λ (o : Option IrFunction). m.found o (λ fn. m.found (slice_get fn.steps p) (go fn)) r) e

  pub no_step : (fn : IrFunction) → slice_get ir.functions f ≡ Some fn → slice_get fn.steps p ≡ None
      → m.step_in ir rs f p go r ≡ Stopped Wrong
  unfolding m.step_in m.found
  no_step fn e1 e2 =
      ap (λ (o : Option IrFunction). m.found o (λ fn. m.found (slice_get fn.steps p) (go fn)) r) e1
      ∙ ap (λ (o : Option Step). m.found o (go fn) r) e2

-- ---- the entry of a function

module _ (ir : Ir) (rs : List Reading) (f depth : ℕ) (args : List Value) (below : List Frame) (r : Run) where
  pub entry_there : (fn : IrFunction) (s : Step) (params : ℕ) (result : Result Control Halt) (q : Run)
      → slice_get ir.functions f ≡ Some fn → slice_get fn.steps 0 ≡ Some s → s.kind ≡ step.Enter params
      → Steps (going.enters f fn args below r) result q → Steps (m.one_step ir rs (Calling f depth args below) r) result q
  entry_there fn s params result q e1 e2 is h =
      steps_there ir rs f 0 (λ fn s. m.act_enter ir rs s.kind f fn args below) r fn s result q e1 e2
      (subst (λ (k : StepKind). Steps (m.act_enter ir rs k f fn args below r) result q) (sym is) h)

  not_entered : (k : StepKind) (fn : IrFunction) → ((params : ℕ) → k ≡ step.Enter params → ⊥)
      → m.act_enter ir rs k f fn args below r ≡ Stopped Wrong
  not_entered (step.Put d x) fn h = refl
  not_entered (step.Nothing d) fn h = refl
  not_entered (step.Drop d) fn h = refl
  not_entered (step.Beside d o) fn h = refl
  not_entered (step.Convert d to x) fn h = refl
  not_entered (step.Unary d o t x) fn h = refl
  not_entered (step.Binary d o x y) fn h = refl
  not_entered (step.Truth d of x) fn h = refl
  not_entered (step.Address d of offset) fn h = refl
  not_entered (step.Follow d x) fn h = refl
  not_entered (step.Member d offset) fn h = refl
  not_entered (step.Element d size own x) fn h = refl
  not_entered (step.Sum d size s t swapped x y) fn h = refl
  not_entered (step.PointTo d) fn h = refl
  not_entered (step.Load d k) fn h = refl
  not_entered (step.Peek d k) fn h = refl
  not_entered (step.Store d to k x keeps) fn h = refl
  not_entered (step.StoreLocal d n offset k x keeps) fn h = refl
  not_entered (step.Update d to k o x keeps) fn h = refl
  not_entered (step.UpdateLocal d n offset k o x keeps) fn h = refl
  not_entered (step.Undefine n) fn h = refl
  not_entered (step.Jump to) fn h = refl
  not_entered (step.Branch d t of when to) fn h = refl
  not_entered (step.Case d of n to) fn h = refl
  not_entered (step.Call d g n) fn h = refl
  not_entered (step.Result d keeps) fn h = refl
  not_entered (step.Enter n) fn h = absurd (h n refl)
  not_entered (step.Return d x) fn h = refl
  not_entered step.ReturnNothing fn h = refl
  not_entered step.Turn fn h = refl
  not_entered (step.Sense d channel) fn h = refl
  not_entered (step.Emit d x) fn h = refl
  not_entered (step.Checkpoint d) fn h = refl
  not_entered (step.Stamp d n to k x) fn h = refl
  not_entered (step.Timely d n from k limit to) fn h = refl
  not_entered (step.Open t to) fn h = refl
  not_entered (step.Check t to) fn h = refl
  not_entered (step.Close t to) fn h = refl

  pub no_entry : (fn : IrFunction) (s : Step) → slice_get ir.functions f ≡ Some fn → slice_get fn.steps 0 ≡ Some s
      → ((params : ℕ) → s.kind ≡ step.Enter params → ⊥) → m.one_step ir rs (Calling f depth args below) r ≡ Stopped Wrong
  unfolding m.step_in m.found
  no_entry fn s e1 e2 h =
      ap (λ (o : Option IrFunction). m.found o
      (λ fn. m.found (slice_get fn.steps 0) (λ s. m.act_enter ir rs s.kind f fn args below)) r) e1
      ∙ ap (λ (o : Option Step). m.found o (λ s. m.act_enter ir rs s.kind f fn args below) r) e2
      ∙ not_entered s.kind fn h

-- ---- the step behind a call

module _ (ir : Ir) (rs : List Reading) (v : Value) (b : Frame) (below : List Frame) (r : Run) where
  resumed_is : (n : ℕ) (keeps : Bool)
      → going.resumes ir rs n keeps v b below r ≡ m.act_result ir rs (step.Result n keeps) v b below r
  unfolding m.at_depth d.at_depth
  resumed_is n keeps = by_test (nat_eq (length b.temporaries) n)
    where
      on : Action Control
      on = pure (At b.function (b.position + 1) b.first (m.with_result ir rs keeps v b.temporaries) below)

      by_test : (t : Bool) → and_then (cond t (pure {A = Unit {0}} tt) m.stuck r) (λ u. on) ≡ cond t on m.stuck r
      by_test true = refl
      by_test false = refl

  pub result_there : (fn : IrFunction) (s : Step) (n : ℕ) (keeps : Bool) (result : Result Control Halt) (q : Run)
      → slice_get ir.functions b.function ≡ Some fn → slice_get fn.steps b.position ≡ Some s → s.kind ≡ step.Result n keeps
      → Steps (going.resumes ir rs n keeps v b below r) result q
      → Steps (m.one_step ir rs (Returning v (b ∷ below)) r) result q
  result_there fn s n keeps result q e1 e2 is h =
      steps_there ir rs b.function b.position (λ fn s. m.act_result ir rs s.kind v b below) r fn s result q e1 e2
      (subst (λ (k : StepKind). Steps (m.act_result ir rs k v b below r) result q) (sym is)
      (subst (λ (o : Outcome Control). Steps o result q) (resumed_is n keeps) h))

  not_resumed : (k : StepKind) → ((n : ℕ) (keeps : Bool) → k ≡ step.Result n keeps → ⊥)
      → m.act_result ir rs k v b below r ≡ Stopped Wrong
  not_resumed (step.Put d x) h = refl
  not_resumed (step.Nothing d) h = refl
  not_resumed (step.Drop d) h = refl
  not_resumed (step.Beside d o) h = refl
  not_resumed (step.Convert d to x) h = refl
  not_resumed (step.Unary d o t x) h = refl
  not_resumed (step.Binary d o x y) h = refl
  not_resumed (step.Truth d of x) h = refl
  not_resumed (step.Address d of offset) h = refl
  not_resumed (step.Follow d x) h = refl
  not_resumed (step.Member d offset) h = refl
  not_resumed (step.Element d size own x) h = refl
  not_resumed (step.Sum d size s t swapped x y) h = refl
  not_resumed (step.PointTo d) h = refl
  not_resumed (step.Load d k) h = refl
  not_resumed (step.Peek d k) h = refl
  not_resumed (step.Store d to k x keeps) h = refl
  not_resumed (step.StoreLocal d n offset k x keeps) h = refl
  not_resumed (step.Update d to k o x keeps) h = refl
  not_resumed (step.UpdateLocal d n offset k o x keeps) h = refl
  not_resumed (step.Undefine n) h = refl
  not_resumed (step.Jump to) h = refl
  not_resumed (step.Branch d t of when to) h = refl
  not_resumed (step.Case d of n to) h = refl
  not_resumed (step.Call d g n) h = refl
  not_resumed (step.Result d keeps) h = absurd (h d keeps refl)
  not_resumed (step.Enter n) h = refl
  not_resumed (step.Return d x) h = refl
  not_resumed step.ReturnNothing h = refl
  not_resumed step.Turn h = refl
  not_resumed (step.Sense d channel) h = refl
  not_resumed (step.Emit d x) h = refl
  not_resumed (step.Checkpoint d) h = refl
  not_resumed (step.Stamp d n to k x) h = refl
  not_resumed (step.Timely d n from k limit to) h = refl
  not_resumed (step.Open t to) h = refl
  not_resumed (step.Check t to) h = refl
  not_resumed (step.Close t to) h = refl

  pub no_result : (fn : IrFunction) (s : Step) → slice_get ir.functions b.function ≡ Some fn
      → slice_get fn.steps b.position ≡ Some s
      → ((n : ℕ) (keeps : Bool) → s.kind ≡ step.Result n keeps → ⊥)
      → m.one_step ir rs (Returning v (b ∷ below)) r ≡ Stopped Wrong
  unfolding m.step_in m.found
  no_result fn s e1 e2 h =
      ap (λ (o : Option IrFunction). m.found o
      (λ fn. m.found (slice_get fn.steps b.position) (λ s. m.act_result ir rs s.kind v b below)) r) e1
      ∙ ap (λ (o : Option Step). m.found o (λ s. m.act_result ir rs s.kind v b below) r) e2
      ∙ not_resumed s.kind h
