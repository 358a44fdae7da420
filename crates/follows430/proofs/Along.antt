-- The steps of a run: what each of them keeps holds wherever it comes to, and a step that is found is one of its function.
use Rattle.std.proofs.Common.{◌≡◌, ℕ, refl, List, Option, Some, None}
use Rattle.std.specs.Prelude.{slice_get}
use Rattle.base16.specs.declared.reading.Reading.{Reading}
use Rattle.c_run.specs.Runs.{Run, Went, Action}
use Rattle.ideal430.specs.Ideal.{Ideal}
use Rattle.ir.specs.Between.{Site}
use Rattle.ir.specs.Machine.{found, step_in, one_step}
use Rattle.ir.specs.declared.control.Control.{Control}
use Rattle.ir.specs.declared.form.Ir.{Ir}
use Rattle.ir.specs.declared.form.IrFunction.{IrFunction}
use Rattle.ir.specs.declared.form.Step.{Step}
use Rattle.steps430.specs.Follows.{Follows}
use Rattle.steps430.specs.Setting.{Setting, or_none, function_of}
use Rattle.steps430.specs.Whole.{Since, begun, no_mark, a_mark, most_of, most_of_step}

module _ (ir : Ir) (rs : List Reading) (Holds : Control → Run → Type 0)
    (keeps : (c d : Control) (r q : Run) → Holds c r → one_step ir rs c r ≡ Went d q → Holds d q) where
  pub along : (c0 : Control) (r0 : Run) → Holds c0 r0 → (c : Control) (r : Run) (last : Option Site) (made : List Site)
      → Since ir rs c0 r0 c r last made → Holds c r
  along c0 r0 first c r last made begun = first
  along c0 r0 first c r last made (no_mark {c = b} {r = q} {made = old} h e same) =
      keeps b c q r (along c0 r0 first b q last old h) e
  along c0 r0 first c r last made (a_mark {c = b} {r = q} {last = before} {made = old} h e less) =
      keeps b c q r (along c0 r0 first b q before old h) e

-- Where there is no step the run does not go on.
module _ (p : Setting) (q : ℕ) (r : Run) (t : Ideal) (go : IrFunction → Step → Action Control) where
  in_function : (fn : IrFunction)
      → ((s : Step) → slice_get fn.steps q ≡ Some s → Follows p (most_of s.kind) (go fn s r) t)
      → Follows p (most_of_step (slice_get fn.steps q)) (found (slice_get fn.steps q) (go fn) r) t
  unfolding found
  in_function fn h = from (slice_get fn.steps q) refl
    where
      from : (o : Option Step) → slice_get fn.steps q ≡ o → Follows p (most_of_step o) (found o (go fn) r) t
      from None e = tt
      from (Some s) e = h s e

  pub at_step : (f : ℕ)
      → ((fn : IrFunction) (s : Step) → slice_get p.ir.functions f ≡ Some fn → slice_get fn.steps q ≡ Some s
      → Follows p (most_of s.kind) (go fn s r) t)
      → Follows p (most_of_step (slice_get (function_of p f).steps q)) (step_in p.ir p.readings f q go r) t
  unfolding step_in found
  at_step f h = from (slice_get p.ir.functions f) refl
    where
      from : (o : Option IrFunction) → slice_get p.ir.functions f ≡ o
          → Follows p (most_of_step (slice_get (or_none o).steps q)) (found o (λ fn. found (slice_get fn.steps q) (go fn)) r) t
      from None e = tt
      from (Some fn) e = in_function fn (λ s k. h fn s e k)
