-- One step of a form's run, of whatever point.
use Rattle.std.proofs.Common.{◌≡◌, ℕ, refl, ap, subst, [], ◌∷◌, Option, Some, None}
use Rattle.std.specs.Prelude.{slice_get}
use Rattle.c_run.specs.Runs.{Run, Action}
use Rattle.ideal430.specs.Ideal.{Ideal}
use Rattle.ir.specs.declared.form.IrFunction.{IrFunction}
use Rattle.ir.specs.declared.form.Step.{Step}
use Rattle.ir.specs.declared.control.Control.{Control}
use Rattle.ir.specs.declared.control.Control.TheVariants.{At, Calling, Returning}
use Rattle.ir.specs.Between.{site_of}
use Rattle.ir.specs.Machine.{act, act_enter, act_result, one_step, step_in, found}
use Rattle.steps430.specs.Setting.{Setting, function_of, or_none}
use Rattle.steps430.specs.Standing.{StandsAt}
use Rattle.steps430.specs.Follows.{Follows}
use Rattle.steps430.specs.Whole.{AllDo, DoesAll, most_of, most_of_step, most_at}

step_in_follows : (p : Setting) (f q : ℕ) (go : IrFunction → Step → Action Control) (r : Run) (t : Ideal)
    → ((s : Step) → slice_get (function_of p f).steps q ≡ Some s → Follows p (most_of s.kind) (go (function_of p f) s r) t)
    → Follows p (most_at p (record { function = f; position = q })) (step_in p.ir p.readings f q go r) t
unfolding step_in found
step_in_follows p f q go r t h = from (slice_get p.ir.functions f) refl
  where
    inner : (o : Option Step) → slice_get (function_of p f).steps q ≡ o
        → Follows p (most_of_step o) (found o (go (function_of p f)) r) t
    inner None e = tt
    inner (Some s) e = h s e

    from : (o : Option IrFunction) → slice_get p.ir.functions f ≡ o
        → Follows p (most_of_step (slice_get (function_of p f).steps q)) (found o (λ fn. found (slice_get fn.steps q)
        (go fn)) r) t
    from None e = tt
    from (Some fn) e = subst (λ (g : IrFunction).
        Follows p (most_of_step (slice_get (function_of p f).steps q)) (found (slice_get g.steps q) (go g) r) t)
        (ap or_none e) (inner (slice_get (function_of p f).steps q) refl)

-- the machine follows a step of the run from wherever it stands
pub one_step_follows : (p : Setting) → AllDo p → (c : Control) (r : Run) (t : Ideal) → StandsAt p c r t
    → Follows p (most_at p (site_of c)) (one_step p.ir p.readings c r) t
one_step_follows p all (At f q first ts below) r t h =
    step_in_follows p f q (λ fn s. act p.ir p.readings s.node s.kind f q first ts below) r t
    (λ s e. all.steps f q s e f q first ts below s.node r t e h)
one_step_follows p all (Calling f d args below) r t h =
    step_in_follows p f 0 (λ fn s. act_enter p.ir p.readings s.kind f fn args below) r t
    (λ s e. all.entries f s e f d args below s.node r t e h)
one_step_follows p all (Returning v []) r t h = tt
one_step_follows p all (Returning v (b ∷ below)) r t h =
    step_in_follows p b.function b.position (λ fn s. act_result p.ir p.readings s.kind v b below) r t
    (λ s e. all.results b.function b.position s e v b below s.node r t e h)

-- so it does each step to which the run comes
pub all_done : (p : Setting) → AllDo p → DoesAll p
all_done p all = λ n c r last made t since h. one_step_follows p all c r t h
