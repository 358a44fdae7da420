-- The whole run: what is answered of how it stops.
use Rattle.std.proofs.Common.{◌≡◌, ℕ, zero, suc, ◌-◌, ◌<◌, List, [], Result, Ok, Err, IfOk, ap, sym, refl, ◌∙◌, subst}
use Rattle.base16.specs.declared.reading.Reading.{Reading}
use Rattle.base16.specs.declared.name.NoMemory.{NoMemory}
use Rattle.base16.specs.declared.end.EndKind.TheVariants.{Done}
use Rattle.c_values.specs.declared.state.State.{State}
use Rattle.c_run.specs.declared.halt.Halt.{Halt}
use Rattle.c_run.specs.declared.halt.Halt.TheVariants as halt
use Rattle.c_run.specs.Runs.{Run, Outcome, Went, Stopped, Stop, Ended, Wrong}
use Rattle.c_run.specs.Actions.{finish}
use Rattle.c_run.specs.Gives.{Halts}
use Rattle.ir.specs.declared.form.Ir.{Ir}
use Rattle.ir.specs.declared.form.IrState.{IrState}
use Rattle.ir.specs.declared.form.IrState.TheVariants as state
use Rattle.ir.specs.declared.control.Control.{Control}
use Rattle.ir.specs.declared.control.Control.TheVariants.{Calling}
use Rattle.ir.specs.Machine as m
use Rattle.ir_run.specs.Going.{marked}
use Rattle.ir_run.specs.Ending.{IsShown}
use Rattle.ir_run.proofs.Bursts.{stops_at}

abbrev again : Outcome (Unit {0}) → Outcome Control
again (Stopped s) = Stopped s
again (Went u r) = Stopped Wrong

finish_same : (r : Run) (s : Stop) → finish {A = Unit {0}} r ≡ Stopped s → finish {A = Control} r ≡ Stopped s
unfolding finish
finish_same r s e = ap again e

pub starts_unmarked : (ir : Ir) → (m.start ir).marks ≡ 0
unfolding m.start
starts_unmarked ir = refl

module _ (ir : Ir) (rs : List Reading) where
  abbrev begins : Control
  begins = Calling ir.main 0 [] []

  pub at_start : (n : ℕ) → n ≡ 0 → m.after ir rs n ≡ state.Live (m.start ir)
  unfolding m.stop_at
  at_start n e = ap (λ k. m.after ir rs k) e

  pub ended_is : (n : ℕ) (entry : Control) (begun r : Run) (last : State) → 0 < n → entry ≡ begins
      → begun ≡ m.start_run ir (n - 1) → marked ir rs n entry begun ≡ finish r
      → finish {A = Unit {0}} r ≡ Stopped (Ended Done last r.used)
      → state.Ended Done last ≡ m.after ir rs n
  ended_is n entry begun r last some here at went done =
      sym (ap m.shown (stops_at ir rs n (Ended Done last r.used) some
      (ap (λ (b : Run). marked ir rs n begins b) (sym at) ∙ ap (λ (k : Control). marked ir rs n k begun) (sym here)
      ∙ went ∙ finish_same r _ done)))

  halted_is : (n : ℕ) (h : Halt) (r : Run) (c : IrState) → 0 < n → Halts (marked ir rs n begins (m.start_run ir (n - 1))) h r
      → IsShown h r.state c → c ≡ m.after ir rs n
  halted_is n halt.Live r c some stops is = is ∙ sym (ap m.shown (stops_at ir rs n _ some stops))
  halted_is n (halt.Ended kind) r c some stops is = is ∙ sym (ap m.shown (stops_at ir rs n _ some stops))
  halted_is n halt.NeedsReading r c some stops is = is ∙ sym (ap m.shown (stops_at ir rs n _ some stops))
  halted_is n (halt.Broken zero node) r c some stops is = is ∙ sym (ap m.shown (stops_at ir rs n _ some stops))
  halted_is n (halt.Broken (suc rule) node) r c some stops is = is ∙ sym (ap m.shown (stops_at ir rs n _ some stops))
  halted_is n halt.NoMemory r c some stops is = absurd is

  pub shown_is : (n : ℕ) (h : Halt) (entry : Control) (r begun : Run) (last : State) (res : Result IrState NoMemory) → 0 < n
      → entry ≡ begins → begun ≡ m.start_run ir (n - 1) → Halts (marked ir rs n entry begun) h r → last ≡ r.state
      → IfOk res (λ c. IsShown h last c) → IfOk res (λ c. c ≡ m.after ir rs n)
  shown_is n h entry r begun last (Err e) some here at stops at_last is = tt
  shown_is n h entry r begun last (Ok c) some here at stops at_last is =
      halted_is n h r c some
      (subst (λ (b : Run). Halts (marked ir rs n begins b) h r) at
      (subst (λ (k : Control). Halts (marked ir rs n k begun) h r) here stops))
      (subst (λ (x : State). IsShown h x c) at_last is)
