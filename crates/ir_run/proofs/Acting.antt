-- What is ensured of a step as actions one after the other is ensured of the step.
use Rattle.std.proofs.Common.{◌≡◌, ℕ, List, Result, subst, sym, refl}
use Rattle.base16.specs.declared.reading.Reading.{Reading}
use Rattle.c_run.specs.declared.halt.Halt.{Halt}
use Rattle.c_run.specs.Runs.{Run, Outcome}
use Rattle.ir.specs.declared.form.Ir.{Ir}
use Rattle.ir.specs.declared.form.Operand.{Operand}
use Rattle.ir.specs.declared.form.StepKind.{StepKind}
use Rattle.ir.specs.declared.form.StepKind.TheVariants as step
use Rattle.ir.specs.declared.control.Control.{Control}
use Rattle.ir.specs.declared.control.Frame.{Frame}
use Rattle.ir.specs.declared.control.Temporary.{Temporary}
use Rattle.ir.specs.Machine as m
use Rattle.ir_run.specs.Going as going
use Rattle.ir_run.specs.Giving.{Steps}
use Rattle.ir_run.proofs.Same.{does_same}

module _ (ir : Ir) (rs : List Reading) (f p first : ℕ) (below : List Frame) (node : ℕ) where
  pub as_acts : (k : StepKind) (ts : List Temporary) (r q : Run) (result : Result Control Halt)
      → Steps (going.acts ir rs node k f p first ts below r) result q → Steps (m.act ir rs node k f p first ts below r) result q
  as_acts k ts r q result h =
      subst (λ (o : Outcome Control). Steps o result q) (sym (does_same ir rs f p first below node k ts r)) h

  acts_stays : (k : StepKind) (ts : List Temporary) (r : Run) → ((d g n : ℕ) → k ≡ step.Call d g n → ⊥)
      → ((d : ℕ) (x : Operand) → k ≡ step.Return d x → ⊥) → (k ≡ step.ReturnNothing → ⊥)
      → going.acts ir rs node k f p first ts below r ≡ going.stays ir rs node p first k f ts below r
  acts_stays (step.Call d g n) ts r h i j = absurd (h d g n refl)
  acts_stays (step.Return d x) ts r h i j = absurd (i d x refl)
  acts_stays step.ReturnNothing ts r h i j = absurd (j refl)
  acts_stays (step.Put d x) ts r h i j = refl
  acts_stays (step.Nothing d) ts r h i j = refl
  acts_stays (step.Drop d) ts r h i j = refl
  acts_stays (step.Beside d o) ts r h i j = refl
  acts_stays (step.Convert d to x) ts r h i j = refl
  acts_stays (step.Unary d o t x) ts r h i j = refl
  acts_stays (step.Binary d o x y) ts r h i j = refl
  acts_stays (step.Truth d of x) ts r h i j = refl
  acts_stays (step.Address d of offset) ts r h i j = refl
  acts_stays (step.Follow d x) ts r h i j = refl
  acts_stays (step.Member d offset) ts r h i j = refl
  acts_stays (step.Element d size own x) ts r h i j = refl
  acts_stays (step.Sum d size s t swapped x y) ts r h i j = refl
  acts_stays (step.PointTo d) ts r h i j = refl
  acts_stays (step.Load d k) ts r h i j = refl
  acts_stays (step.Peek d k) ts r h i j = refl
  acts_stays (step.Store d to k x keeps) ts r h i j = refl
  acts_stays (step.StoreLocal d n offset k x keeps) ts r h i j = refl
  acts_stays (step.Update d to k o x keeps) ts r h i j = refl
  acts_stays (step.UpdateLocal d n offset k o x keeps) ts r h i j = refl
  acts_stays (step.Undefine n) ts r h i j = refl
  acts_stays (step.Jump to) ts r h i j = refl
  acts_stays (step.Branch d t of when to) ts r h i j = refl
  acts_stays (step.Case d of n to) ts r h i j = refl
  acts_stays (step.Result d keeps) ts r h i j = refl
  acts_stays (step.Enter n) ts r h i j = refl
  acts_stays step.Turn ts r h i j = refl
  acts_stays (step.Sense d channel) ts r h i j = refl
  acts_stays (step.Emit d x) ts r h i j = refl
  acts_stays (step.Checkpoint d) ts r h i j = refl
  acts_stays (step.Stamp d n to k x) ts r h i j = refl
  acts_stays (step.Timely d n from k limit to) ts r h i j = refl
  acts_stays (step.Open t to) ts r h i j = refl
  acts_stays (step.Check t to) ts r h i j = refl
  acts_stays (step.Close t to) ts r h i j = refl

  pub as_stays : (k : StepKind) (ts : List Temporary) (r q : Run) (result : Result Control Halt)
      → ((d g n : ℕ) → k ≡ step.Call d g n → ⊥)
      → ((d : ℕ) (x : Operand) → k ≡ step.Return d x → ⊥) → (k ≡ step.ReturnNothing → ⊥)
      → Steps (going.stays ir rs node p first k f ts below r) result q → Steps (m.act ir rs node k f p first ts below r) result q
  as_stays k ts r q result h i j e =
      as_acts k ts r q result (subst (λ (o : Outcome Control). Steps o result q) (sym (acts_stays k ts r h i j)) e)

  -- a step of a kind that is known
  pub act_kind : (k j : StepKind) (ts : List Temporary) (r q : Run) (result : Result Control Halt) → k ≡ j
      → Steps (going.acts ir rs node j f p first ts below r) result q → Steps (m.act ir rs node k f p first ts below r) result q
  act_kind k j ts r q result e h =
      as_acts k ts r q result
      (subst (λ (s : StepKind). Steps (going.acts ir rs node s f p first ts below r) result q) (sym e) h)
