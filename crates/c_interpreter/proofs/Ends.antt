-- The whole run, from the body of `main`.
use Rattle.std.proofs.Common.{◌≡◌, ℕ, zero, suc, ◌-◌, ◌<◌, List, [], slice_get, Some, Result, Ok, Err, IfOk, ap, sym, refl, ◌∙◌, arith, subst}
use Rattle.base16.specs.declared.reading.Reading.{Reading}
use Rattle.base16.specs.declared.name.NoMemory.{NoMemory}
use Rattle.base16.specs.declared.end.EndKind.TheVariants.{Done}
use Rattle.core_tree.specs.declared.program.Core.{Core}
use Rattle.core_tree.specs.declared.program.Function.{Function}
use Rattle.c_values.specs.declared.state.State.{State}
use Rattle.c_run.specs.declared.halt.Halt.{Halt}
use Rattle.c_run.specs.declared.halt.Halt.TheVariants as halt
use Rattle.c_run.specs.Runs.{Run, Action, Outcome, Went, Stopped, Stop, Live, Ended, and_then, counted}
use Rattle.c_run.specs.Actions.{enter, finish}
use Rattle.core_tree.specs.Heights.{frame_bytes}
use Rattle.c_run.specs.Gives.{Halts}
use Rattle.c_meaning.specs.declared.flow.Flow.{Flow}
use Rattle.c_meaning.specs.declared.outcome.CState.{CState}
use Rattle.c_meaning.specs.declared.outcome.CState.TheVariants as state
use Rattle.c_meaning.specs.After.{objects_of, body, calls, main_of, main_in, main_run, start_run, stop_of, stop_at, shown, after}
use Rattle.c_meaning.proofs.CountingStatements.{live_marks}
use Rattle.c_interpreter.specs.Ending.{main_body, IsShown}

-- what follows both of two actions
regrouped : {A B C : Type 0} (o : Outcome A) (f : A → Action B) (g : Action C) → and_then o (λ a. λ r. and_then (f a r) (λ _. g)) ≡ and_then (and_then o f) (λ _. g)
regrouped (Went a r) f g = refl
regrouped (Stopped s) f g = refl

module _ (K : Core) (R : List Reading) where
  in_is : (n : ℕ) (f : Function) (r : Run) → main_in K R n (Some f) r ≡ and_then (main_body K R n f r) (λ _. finish)
  unfolding main_in
  in_is n f r =
      regrouped (enter n (frame_bytes K.structs f) (objects_of K.structs f) r) (λ first. λ t. body K R (calls K R (suc t.left)) f [] first t) (finish {A = Unit {0}})

  stop_is : (n s : ℕ) (f : Function) → 0 < s → main_of K ≡ Some n → slice_get K.functions n ≡ Some f
      → stop_at K R s ≡ stop_of K R (and_then (main_body K R n f (start_run K R (s - 1))) (λ _. finish))
  unfolding stop_at main_run
  stop_is n s f h here there =
      let more : s ≡ suc (s - 1) = omega arith in
      ap (stop_at K R) more
      ∙ ap (λ o. stop_of K R (main_run K R o (start_run K R (s - 1)))) here
      ∙ ap (λ o. stop_of K R (main_in K R n o (start_run K R (s - 1)))) there
      ∙ ap (stop_of K R) (in_is n f (start_run K R (s - 1)))

  pub ended_is : (n s : ℕ) (f : Function) (flow : Flow) (r : Run) (last : State) → 0 < s → main_of K ≡ Some n → slice_get K.functions n ≡ Some f
      → main_body K R n f (start_run K R (s - 1)) ≡ Went flow r → finish {A = Unit {0}} r ≡ Stopped (Ended Done last r.used)
      → after K R s ≡ state.Ended Done last
  ended_is n s f flow r last h here there went done =
      ap shown (stop_is n s f h here there ∙ ap (λ o. stop_of K R (and_then o (λ _. finish))) went ∙ ap (stop_of K R) done)

  stopped_is : (n s : ℕ) (f : Function) (st : Stop) → 0 < s → main_of K ≡ Some n → slice_get K.functions n ≡ Some f
      → main_body K R n f (start_run K R (s - 1)) ≡ Stopped st → stop_at K R s ≡ st
  stopped_is n s f st h here there e =
      stop_is n s f h here there ∙ ap (λ o. stop_of K R (and_then o (λ _. finish))) e

  same_marks : (s : State) (m : ℕ) → (counted s).marks ≡ m → counted s ≡ record s { marks = m }
  same_marks s m e = ap (λ k. record s { marks = k }) e

  halted_is : (n s : ℕ) (f : Function) (h : Halt) (r : Run) (c : CState) → 0 < s → main_of K ≡ Some n → slice_get K.functions n ≡ Some f
      → Halts (main_body K R n f (start_run K R (s - 1))) h r → IsShown h r.state s c → c ≡ after K R s
  halted_is n s f halt.Live r c some here there stops is =
      let live : stop_at K R s ≡ Live (counted r.state) r.used = stopped_is n s f _ some here there stops in
      is ∙ ap state.Live (sym (same_marks r.state s (live_marks K R s (counted r.state) r.used live))) ∙ sym (ap shown live)
  halted_is n s f (halt.Ended kind) r c some here there stops is = is ∙ sym (ap shown (stopped_is n s f _ some here there stops))
  halted_is n s f halt.NeedsReading r c some here there stops is = is ∙ sym (ap shown (stopped_is n s f _ some here there stops))
  halted_is n s f (halt.Broken zero node) r c some here there stops is = is ∙ sym (ap shown (stopped_is n s f _ some here there stops))
  halted_is n s f (halt.Broken (suc rule) node) r c some here there stops is = is ∙ sym (ap shown (stopped_is n s f _ some here there stops))
  halted_is n s f halt.NoMemory r c some here there stops is = absurd is

  pub shown_is : (n s : ℕ) (f : Function) (h : Halt) (r begun : Run) (last : State) (k : Core) (res : Result CState NoMemory)
      → 0 < s → main_of K ≡ Some n → slice_get K.functions n ≡ Some f → k ≡ K → begun ≡ start_run k R (s - 1)
      → Halts (main_body K R n f begun) h r → last ≡ r.state → IfOk res (λ c. IsShown h last s c) → IfOk res (λ c. c ≡ after K R s)
  shown_is n s f h r begun last k (Err e) some here there same at stops at_last is = tt
  shown_is n s f h r begun last k (Ok c) some here there same at stops at_last is =
      let from : begun ≡ start_run K R (s - 1) = at ∙ ap (λ (x : Core). start_run x R (s - 1)) same in
      halted_is n s f h r c some here there
      (subst (λ (b : Run). Halts (main_body K R n f b) h r) from stops)
      (subst (λ (x : State). IsShown h x s c) at_last is)
