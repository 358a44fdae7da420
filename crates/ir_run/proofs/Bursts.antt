-- The run from mark to mark, as an outcome, is that of the form's run.
use Rattle.std.proofs.Common.{◌≡◌, ℕ, zero, suc, ◌+◌, ◌-◌, ◌<◌, ◌≤◌, Bool, true, false, refl, sym, ap, ◌∙◌, cond, [], ◌∷◌, length, List, arith, subst}
use Rattle.std.specs.Prelude.{nat_eq}
use Rattle.std.proofs.lemmas.Bool.{eq-eqb, ne_eqb}
use Rattle.std.proofs.Math.Dec.{eqb-suc-zero}
use Rattle.base16.specs.declared.reading.Reading.{Reading}
use Rattle.c_run.specs.declared.halt.Halt.{Halt}
use Rattle.c_run.specs.Runs.{Run, Stop, Wrong, Outcome, Went, Stopped, Action, and_then}
use Rattle.c_run.specs.Actions.{finish}
use Rattle.c_run.specs.Gives.{Halts}
use Rattle.ir.specs.declared.form.Ir.{Ir}
use Rattle.ir.specs.declared.control.Control.{Control}
use Rattle.ir.specs.declared.control.Frame.{Frame}
use Rattle.ir.specs.declared.control.Control.TheVariants.{At, Calling, Returning}
use Rattle.ir.specs.Machine as m
use Rattle.ir_run.specs.Going.{is_over, bursts, marked}
use Rattle.ir_run.specs.Giving.{reached}
use Rattle.ir_run.proofs.Popping.{halts_on}

-- ---- what is reached

some_below : (b : Frame) (below : List Frame) → nat_eq (length (b ∷ below)) 0 ≡ true → ⊥
some_below b below h = let e : nat_eq (length (b ∷ below)) 0 ≡ false = eqb-suc-zero (length below) in cc

-- where the outermost call was left, nothing follows
over_stops : (e : Control) (q : Run) (f : Control → Action Control) → is_over e ≡ true → and_then (reached e q) f ≡ finish q
unfolding finish
over_stops (Returning v []) q f h = refl
over_stops (Returning v (b ∷ below)) q f h = absurd (some_below b below h)
over_stops (At function p first ts below) q f h = absurd (cc)
over_stops (Calling function depth args below) q f h = absurd (cc)

pub over_reached : (e : Control) (q : Run) → is_over e ≡ true → reached e q ≡ finish q
over_reached (Returning v []) q h = refl
over_reached (Returning v (b ∷ below)) q h = absurd (some_below b below h)
over_reached (At function p first ts below) q h = absurd (cc)
over_reached (Calling function depth args below) q h = absurd (cc)

pub went_reached : (e : Control) (q : Run) → is_over e ≡ false → reached e q ≡ Went e q
went_reached (Returning v []) q h = absurd (cc)
went_reached (Returning v (b ∷ below)) q h = refl
went_reached (At function p first ts below) q h = refl
went_reached (Calling function depth args below) q h = refl

module _ (ir : Ir) (rs : List Reading) where
  -- ---- a step of a burst

  abbrev on_from : ℕ → Run → Control → Action Control
  on_from n r e = λ q. cond (nat_eq q.left r.left) (bursts ir rs n e q) (Went e q)

  one_more : (n i : ℕ) (c : Control) (r : Run) → i < n
      → bursts ir rs (n - i) c r ≡ and_then (m.one_step ir rs c r) (on_from (n - (i + 1)) r)
  one_more n i c r less =
      let more : n - i ≡ suc (n - (i + 1)) = omega arith in
      ap (λ k. bursts ir rs k c r) more

  pub burst_over : (n i : ℕ) (c e : Control) (r q : Run) → i < n → m.one_step ir rs c r ≡ reached e q → is_over e ≡ true
      → bursts ir rs (n - i) c r ≡ reached e q
  burst_over n i c e r q less is over =
      one_more n i c r less ∙ ap (λ (o : Outcome Control). and_then o (on_from (n - (i + 1)) r)) is
      ∙ over_stops e q (on_from (n - (i + 1)) r) over ∙ sym (over_reached e q over)

  went_on : (n i : ℕ) (c e : Control) (r q : Run) → i < n → m.one_step ir rs c r ≡ reached e q → is_over e ≡ false
      → bursts ir rs (n - i) c r ≡ on_from (n - (i + 1)) r e q
  went_on n i c e r q less is not =
      one_more n i c r less
      ∙ ap (λ (o : Outcome Control). and_then o (on_from (n - (i + 1)) r)) (is ∙ went_reached e q not)

  -- a mark was made
  pub burst_marked : (n i : ℕ) (c e : Control) (r q : Run) → i < n → m.one_step ir rs c r ≡ reached e q → is_over e ≡ false
      → (q.left ≡ r.left → ⊥) → bursts ir rs (n - i) c r ≡ reached e q
  burst_marked n i c e r q less is not other =
      went_on n i c e r q less is not
      ∙ ap (λ b. cond b (bursts ir rs (n - (i + 1)) e q) (Went e q)) (ne_eqb q.left r.left other) ∙ sym (went_reached e q not)

  -- none was made
  pub burst_turn : (n i : ℕ) (c e : Control) (r q : Run) → i < n → m.one_step ir rs c r ≡ reached e q → is_over e ≡ false
      → q.left ≡ r.left → bursts ir rs (n - i) c r ≡ bursts ir rs (n - (i + 1)) e q
  burst_turn n i c e r q less is not same =
      went_on n i c e r q less is not
      ∙ ap (λ b. cond b (bursts ir rs (n - (i + 1)) e q) (Went e q)) (eq-eqb q.left r.left same)

  pub burst_halts : (n i : ℕ) (c : Control) (r q : Run) (h : Halt) → i < n → Halts (m.one_step ir rs c r) h q
      → Halts (bursts ir rs (n - i) c r) h q
  burst_halts n i c r q h less is =
      subst (λ (o : Outcome Control). Halts o h q) (sym (one_more n i c r less))
      (halts_on (m.one_step ir rs c r) (on_from (n - (i + 1)) r) h q is)

  pub burst_end : (n i : ℕ) (c : Control) (r : Run) → n ≤ i → bursts ir rs (n - i) c r ≡ Stopped Wrong
  burst_end n i c r past = let none : n - i ≡ 0 = omega arith in ap (λ k. bursts ir rs k c r) none

  -- ---- from mark to mark

  abbrev steps : ℕ
  steps = m.steps_in ir.functions

  next_mark : (n i : ℕ) (c : Control) (r : Run) → i < n
      → marked ir rs (n - i) c r ≡ and_then (bursts ir rs steps c r) (marked ir rs (n - (i + 1)))
  next_mark n i c r less =
      let more : n - i ≡ suc (n - (i + 1)) = omega arith in
      ap (λ k. marked ir rs k c r) more

  pub marks_over : (n i : ℕ) (c e : Control) (r q : Run) → i < n → bursts ir rs steps c r ≡ reached e q → is_over e ≡ true
      → marked ir rs (n - i) c r ≡ finish q
  marks_over n i c e r q less is over =
      next_mark n i c r less ∙ ap (λ (o : Outcome Control). and_then o (marked ir rs (n - (i + 1)))) is
      ∙ over_stops e q (marked ir rs (n - (i + 1))) over

  pub marks_turn : (n i : ℕ) (c e : Control) (r q : Run) → i < n → bursts ir rs steps c r ≡ reached e q → is_over e ≡ false
      → marked ir rs (n - i) c r ≡ marked ir rs (n - (i + 1)) e q
  marks_turn n i c e r q less is not =
      next_mark n i c r less
      ∙ ap (λ (o : Outcome Control). and_then o (marked ir rs (n - (i + 1)))) (is ∙ went_reached e q not)

  pub marks_halt : (n i : ℕ) (c : Control) (r q : Run) (h : Halt) → i < n → Halts (bursts ir rs steps c r) h q
      → Halts (marked ir rs (n - i) c r) h q
  marks_halt n i c r q h less is =
      subst (λ (o : Outcome Control). Halts o h q) (sym (next_mark n i c r less))
      (halts_on (bursts ir rs steps c r) (marked ir rs (n - (i + 1))) h q is)

  pub marks_end : (n i : ℕ) (c : Control) (r : Run) → n ≤ i → marked ir rs (n - i) c r ≡ Stopped Wrong
  marks_end n i c r past = let none : n - i ≡ 0 = omega arith in ap (λ k. marked ir rs k c r) none

  -- ---- the same as stops

  abbrev stop_by : (Control → Run → Stop) → Outcome Control → Stop
  stop_by again (Stopped s) = s
  stop_by again (Went c r) = again c r

  abbrev wrong : Control → Run → Stop
  wrong c r = Wrong

  by_mark : (n : ℕ) (again : Control → Run → Stop) (e : Control) (q : Run)
      → m.burst ir rs n again e q ≡ stop_by again (bursts ir rs n e q)
      → (b : Bool) → cond b (m.burst ir rs n again e q) (again e q) ≡ stop_by again (cond b (bursts ir rs n e q) (Went e q))
  by_mark n again e q more true = more
  by_mark n again e q more false = refl

  by_step : (n : ℕ) (again : Control → Run → Stop) (r : Run)
      → ((e : Control) (q : Run) → m.burst ir rs n again e q ≡ stop_by again (bursts ir rs n e q)) → (o : Outcome Control)
      → m.after_step r.left (m.burst ir rs n again) again o ≡ stop_by again (and_then o (on_from n r))
  by_step n again r more (Stopped s) = refl
  by_step n again r more (Went e q) = by_mark n again e q (more e q) (nat_eq q.left r.left)

  burst_is : (n : ℕ) (again : Control → Run → Stop) (c : Control) (r : Run)
      → m.burst ir rs n again c r ≡ stop_by again (bursts ir rs n c r)
  burst_is zero again c r = refl
  burst_is (suc n) again c r = by_step n again r (λ e q. burst_is n again e q) (m.one_step ir rs c r)

  followed : (o : Outcome Control) (n : ℕ) (again : Control → Run → Stop)
      → ((c : Control) (r : Run) → again c r ≡ stop_by wrong (marked ir rs n c r))
      → stop_by again o ≡ stop_by wrong (and_then o (marked ir rs n))
  followed (Stopped s) n again h = refl
  followed (Went c r) n again h = h c r

  run_is : (n : ℕ) (c : Control) (r : Run) → m.run_from ir rs n c r ≡ stop_by wrong (marked ir rs (suc n) c r)
  run_is zero c r = burst_is steps wrong c r ∙ followed (bursts ir rs steps c r) 0 wrong (λ c r. refl)
  run_is (suc n) c r =
      burst_is steps (m.run_from ir rs n) c r ∙ followed (bursts ir rs steps c r) (suc n) (m.run_from ir rs n) (run_is n)

  abbrev begins : Control
  begins = Calling ir.main 0 [] []

  -- how the run stops
  pub stops_at : (n : ℕ) (s : Stop) → 0 < n
      → marked ir rs n (Calling ir.main 0 [] []) (m.start_run ir (n - 1)) ≡ Stopped s → m.stop_at ir rs n ≡ s
  unfolding m.stop_at
  stops_at n s some e =
      let more : n ≡ suc (n - 1) = omega arith in
      ap (λ k. m.stop_at ir rs k) more ∙ run_is (n - 1) begins (m.start_run ir (n - 1))
      ∙ ap (λ k. stop_by wrong (marked ir rs k begins (m.start_run ir (n - 1)))) (sym more) ∙ ap (stop_by wrong) e
