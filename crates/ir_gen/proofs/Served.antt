-- The form's run stops as the program's does.
use Rattle.std.proofs.Common.{◌≡◌, ℕ, zero, suc, List, [], length, Option, Some, None, refl, sym, ap, ◌∙◌, subst}
use Rattle.std.specs.Prelude.{slice_get}
use Rattle.base16.specs.declared.reading.Reading.{Reading}
use Rattle.core_tree.specs.declared.program.Core.{Core}
use Rattle.core_tree.specs.declared.program.Function.{Function}
use Rattle.c_values.specs.declared.state.State.{State}
use Rattle.c_run.specs.Runs.{Run, Stop, Wrong, Live, Ended, NeedsReading, Undefined as Broken, Outcome, Went, Stopped, and_then}
use Rattle.c_meaning.specs.After as after
use Rattle.ir.specs.declared.form.Ir.{Ir}
use Rattle.ir.specs.declared.form.IrFunction.{IrFunction}
use Rattle.ir.specs.declared.control.Control.TheVariants.{Calling}
use Rattle.ir.specs.Machine as m
use Rattle.ir.specs.Ends.{IsFine, live, ended, needs, Ends, over}
use Rattle.ir.specs.Jumps.{IsOrdered}
use Rattle.ir.proofs.Bounded.{within_the_bound}
use Rattle.ir.proofs.Holding.{Holds, start_holds}
use Rattle.ir_gen.specs.Serves.{SameStates, IsDefined, as_form}
use Rattle.ir_gen.proofs.Calls.{Made, main_run}

-- a form that was made of a program
pub record FormOf (core : Core) (ir : Ir) : Type 0 where
  pub functions : (n : ℕ) (x : Function) → slice_get core.functions n ≡ Some x → (fn : IrFunction)
      × (slice_get ir.functions n ≡ Some fn) × Made core x fn
  pub main : after.main_of core ≡ Some ir.main
  pub start : m.start ir ≡ after.start core
  pub objects : length ir.globals ≡ length core.globals
  pub ordered : IsOrdered ir.functions

abbrev NotWrong : Stop → Type 0
NotWrong Wrong = ⊥
NotWrong s = Unit {0}

not_wrong : {s : Stop} → IsFine s → NotWrong s
not_wrong live = tt
not_wrong ended = tt
not_wrong needs = tt

module _ (core : Core) (ir : Ir) (form : FormOf core ir) (rs : List Reading) where
  from_main : (n : ℕ) (x : Function) → slice_get core.functions n ≡ Some x → (r : Run) (o : Outcome (Unit {0}))
      → after.main_in core rs n (Some x) r ≡ o → IsFine (after.stop_of core rs o) → Holds ir (Went (Calling n 0 [] []) r)
      → Ends ir rs (Went (Calling n 0 [] []) r) (after.stop_of core rs o)
  from_main n x e r (Went u q) h fine holds = absurd (not_wrong fine)
  from_main n x e r (Stopped t) h fine holds = (main_run core rs ir form.functions n x e r).ends holds t
      (subst (λ o. Ends ir rs (and_then o (λ u. m.stuck)) t) (sym h) (over fine))

  from_function : (n : ℕ) (r : Run) (o : Option Function) → slice_get core.functions n ≡ o
      → IsFine (after.stop_of core rs (after.main_in core rs n o r)) → Holds ir (Went (Calling n 0 [] []) r)
      → Ends ir rs (Went (Calling n 0 [] []) r) (after.stop_of core rs (after.main_in core rs n o r))
  unfolding after.main_in
  from_function n r None e fine holds = absurd (not_wrong fine)
  from_function n r (Some x) e fine holds = from_main n x e r (after.main_in core rs n (Some x) r) refl fine holds

  same_start : (n : ℕ) → m.start_run ir n ≡ after.start_run core rs n
  same_start n = ap (λ (s : State). record { state = s; used = 0; left = n; next = length ir.globals }) form.start
      ∙ ap (λ k. record { state = after.start core; used = 0; left = n; next = k }) form.objects

  main_is : (n : ℕ) → after.stop_at core rs (suc n)
      ≡ after.stop_of core rs (after.main_in core rs ir.main (slice_get core.functions ir.main) (after.start_run core rs n))
  unfolding after.stop_at after.main_run
  main_is n = ap (λ o. after.stop_of core rs (after.main_run core rs o (after.start_run core rs n))) form.main

  -- without a bound on the steps
  pub ends_so : (n : ℕ) → IsFine (after.stop_at core rs (suc n))
      → Ends ir rs (Went (Calling ir.main 0 [] []) (m.start_run ir n)) (after.stop_at core rs (suc n))
  ends_so n fine =
      subst (λ r. Ends ir rs (Went (Calling ir.main 0 [] []) r) (after.stop_at core rs (suc n))) (sym (same_start n))
      (subst (λ s. Ends ir rs (Went (Calling ir.main 0 [] []) (after.start_run core rs n)) s) (sym (main_is n))
      (from_function ir.main (after.start_run core rs n) (slice_get core.functions ir.main) refl
      (subst IsFine (main_is n) fine)
      (subst (λ r. Holds ir (Went (Calling ir.main 0 [] []) r)) (same_start n) (start_holds ir ir.main n))))

  pub same_stop : (s : ℕ) → IsFine (after.stop_at core rs s) → m.stop_at ir rs s ≡ after.stop_at core rs s
  unfolding after.stop_at m.stop_at
  same_stop zero fine = ap (λ s. Live s 0) form.start
  same_stop (suc n) fine = within_the_bound ir rs form.ordered n (after.stop_at core rs (suc n)) (ends_so n fine)

fine_of : (s : Stop) → IsDefined (after.shown s) → IsFine s
fine_of (Live s used) d = live
fine_of (Ended k s used) d = ended
fine_of NeedsReading d = needs
fine_of (Broken rule node) d = absurd d
fine_of Wrong d = absurd d

shown_same : (s : Stop) → IsFine s → m.shown s ≡ as_form (after.shown s)
shown_same (Live s used) f = refl
shown_same (Ended k s used) f = refl
shown_same NeedsReading f = refl
shown_same (Broken rule node) f = refl
shown_same Wrong f = refl

pub same_states : (core : Core) (ir : Ir) → FormOf core ir → SameStates core ir
same_states core ir form = λ rs s d.
    let fine = fine_of (after.stop_at core rs s) d in
    ap m.shown (same_stop core ir form rs s fine) ∙ shown_same (after.stop_at core rs s) fine
