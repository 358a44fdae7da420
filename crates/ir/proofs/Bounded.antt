-- A run between two marks is short where jumps go ahead or to a turn: so a run that ends, ends within the bound. And
-- what ends within the bound ends so without it.
use Rattle.std.proofs.Common.{◌≡◌, ℕ, zero, suc, ◌+◌, ◌<◌, ◌≤◌, List, [], ◌∷◌, length, Option, Some, None, Bool, true, false, refl, sym, ap, ◌∙◌, subst, arith, cond}
use Rattle.std.proofs.lemmas.Bool.Decides.{nat_tests}
use Rattle.std.specs.Prelude.{slice_get, nat_eq}
use Rattle.base16.specs.declared.reading.Reading.{Reading}
use Rattle.c_values.specs.declared.value.Value.{Value}
use Rattle.c_run.specs.Runs.{Run, Stop, Wrong, Outcome, Went, Stopped}
use Rattle.ir.specs.declared.form.Ir.{Ir}
use Rattle.ir.specs.declared.form.IrFunction.{IrFunction}
use Rattle.ir.specs.declared.form.Step.{Step}
use Rattle.ir.specs.Machine as m
use Rattle.ir.specs.Machine.{Control, At, Calling, Returning, Frame, Temporary}
use Rattle.ir.specs.Jumps.{is_turn, JumpsAhead, IsOrdered}
use Rattle.ir.specs.Ends.{IsFine, Ends, over, then_on}
use Rattle.ir.specs.Laws.{EndsWithinTheBound, EndsWithoutBound}
use Rattle.ir.proofs.Advance.{Advance, halted, on, marked, Here, adv_act, adv_turn, adv_enter, adv_result, adv_step_in}

pub same_function : (fs : List IrFunction) (f : ℕ) (a b : IrFunction) → slice_get fs f ≡ Some a → slice_get fs f ≡ Some b → a ≡ b
same_function fs f a b h g = some_is (sym h ∙ g)
  where
    from_some : IrFunction → Option IrFunction → IrFunction
    from_some d None = d
    from_some d (Some x) = x

    some_is : Some a ≡ Some b → a ≡ b
    some_is e = ap (from_some a) e

-- the step that stands at a place of a function that was found twice
pub same_step : (fs : List IrFunction) (f p : ℕ) (fn gn : IrFunction) (s t : Step) → slice_get fs f ≡ Some fn
    → slice_get fs f ≡ Some gn
    → slice_get fn.steps p ≡ Some s → slice_get gn.steps p ≡ Some t → s ≡ t
same_step fs f p fn gn s t is gis e g = ap (step_of t) (sym e ∙ subst (λ x. slice_get x.steps p ≡ Some t)
    (same_function fs f gn fn gis is) g)
  where
    step_of : Step → Option Step → Step
    step_of d None = d
    step_of d (Some y) = y

within : (gs : List IrFunction) (f : ℕ) (fn : IrFunction) → slice_get gs f ≡ Some fn → length fn.steps ≤ m.steps_in gs
within [] f fn h = absurd (grind (arith, h))
within (g ∷ gs) zero fn h = omega (arith, subst (λ o. length (from_some g o).steps ≤ length g.steps) h (omega arith))
  where
    from_some : IrFunction → Option IrFunction → IrFunction
    from_some d None = d
    from_some d (Some x) = x
within (g ∷ gs) (suc f) fn h = omega (arith, within gs f fn h)

short : (A : Type 0) (xs : List A) (i : ℕ) (x : A) → slice_get xs i ≡ Some x → i < length xs
short A [] i x h = absurd (grind (arith, h))
short A (y ∷ xs) zero x h = omega arith
short A (y ∷ xs) (suc i) x h = omega (arith, short A xs i x h)

same_number : (x : ℕ) → nat_eq x x ≡ true
same_number x = grind (arith, nat_tests)

lower_number : (x : ℕ) → nat_eq x (suc x) ≡ false
lower_number x = grind (arith, nat_tests)

module _ (ir : Ir) (rs : List Reading) where
  -- the calls that wait are past their entry
  data Later : List Frame → Type 0 where
    none : Later []
    one : {b : Frame} {below : List Frame} (fn : IrFunction) → slice_get ir.functions b.function ≡ Some fn → 1 ≤ b.position
        → b.position ≤ length fn.steps → Later below → Later (b ∷ below)

  -- from here at most n steps are made to the next mark
  data Fits : ℕ → Control → Type 0 where
    at : {n f p first : ℕ} {ts : List Temporary} {below : List Frame} (fn : IrFunction) → slice_get ir.functions f ≡ Some fn
        → 1 ≤ p → 1 ≤ n → length fn.steps + 1 ≤ n + p → Later below → Fits n (At f p first ts below)
    turn : {n f p first : ℕ} {ts : List Temporary} {below : List Frame} (fn : IrFunction) (s : Step)
        → slice_get ir.functions f ≡ Some fn → slice_get fn.steps p ≡ Some s → is_turn s.kind ≡ true → 1 ≤ n → Later below
        → Fits n (At f p first ts below)
    calling : {n f d : ℕ} {args : List Value} {below : List Frame} → 1 ≤ n → Later below → Fits n (Calling f d args below)
    returning : {n : ℕ} {v : Value} {b : Frame} {below : List Frame} (fn : IrFunction)
        → slice_get ir.functions b.function ≡ Some fn → 1 ≤ b.position → 1 ≤ n → length fn.steps + 1 ≤ n + b.position
        → Later below → Fits n (Returning v (b ∷ below))

  module _ (ordered : IsOrdered ir.functions) where
    here_at : {n f p : ℕ} {below : List Frame} (fn : IrFunction) → slice_get ir.functions f ≡ Some fn → 1 ≤ p
        → p < length fn.steps → length fn.steps + 1 ≤ suc n + p → Later below
        → Here (Fits n) (Fits (m.steps_in ir.functions)) fn f p below
    here_at {n} {f} {p} {below} fn is past inside room w =
        let most : length fn.steps ≤ m.steps_in ir.functions = within ir.functions f fn is in
        record {
          ahead = λ to first ts lt. at fn is (omega arith) (omega arith) (omega arith) w;
          turned = λ to first ts s e k. turn fn s is e k (omega arith) w;
          called = λ g d first args ts. calling (omega arith) (one fn is (omega arith) (omega arith) w);
          anew = λ to first ts lt. at fn is (omega arith) (omega arith) (omega arith) w;
          returned = λ v b rest e. back v b rest (subst Later e w);
        }
      where
        back : (v : Value) (b : Frame) (rest : List Frame) → Later (b ∷ rest)
            → Fits (m.steps_in ir.functions) (Returning v (b ∷ rest))
        back v b rest (one gn gis past2 inside2 w2) = returning gn gis past2 (omega
            (arith, within ir.functions b.function gn gis)) (omega (arith, within ir.functions b.function gn gis)) w2

    adv_step : {n : ℕ} (c : Control) (r : Run) → Fits (suc n) c
        → Advance (Fits n) (Fits (m.steps_in ir.functions)) r.left (m.one_step ir rs c r)
    adv_step (At f p first ts below) r (at fn is past some room w) =
        adv_step_in ir rs f p r _ (λ gn s e g. let same = same_function ir.functions f gn fn e is in
        let g' = subst (λ x. slice_get x.steps p ≡ Some s) same g in
        adv_act ir rs (here_at fn is past (short Step fn.steps p s g') room w) s.node s.kind first ts r (ordered f p fn s is g'))
    adv_step {n} (At f p first ts below) r (turn fn t is e k room w) =
        adv_step_in ir rs f p r _ (λ gn s e2 g.
        let same = same_step ir.functions f p fn gn t s is e2 e g in
        let most : length fn.steps ≤ m.steps_in ir.functions = within ir.functions f fn is in
        let inside : p < length fn.steps = short Step fn.steps p t e in
        adv_turn ir rs f p below fn (λ to first ts lt. at fn is (omega arith) (omega arith)
        (omega arith) w) s.node s.kind first ts r
        (subst (λ x. is_turn x.kind ≡ true) same k) (subst (λ x. JumpsAhead fn p x.kind) same (ordered f p fn t is e)))
    adv_step (Calling f d args below) r (calling room w) =
        adv_step_in ir rs f 0 r _ (λ fn s is g. let some : 0 < length fn.steps = short Step fn.steps 0 s g in
        let most : length fn.steps ≤ m.steps_in ir.functions = within ir.functions f fn is in
        adv_enter ir rs f below s.kind fn args r (λ first. at fn is (omega arith) (omega arith) (omega arith) w))
    adv_step (Returning v []) r h = halted
    adv_step (Returning v (b ∷ below)) r (returning fn is past some room w) =
        adv_step_in ir rs b.function b.position r _ (λ gn s e g. let same = same_function ir.functions b.function gn fn e is in
        let g' = subst (λ x. slice_get x.steps b.position ≡ Some s) same g in
        let inside : b.position < length fn.steps = short Step fn.steps b.position s g' in
        adv_result ir rs s.kind v b below r (λ plain ts. at fn is (omega arith) (omega arith) (omega arith) w))

    -- the run behind a mark
    abbrev rest : ℕ → Control → Run → Stop
    rest zero c r = Wrong
    rest (suc k) c r = m.run_from ir rs k c r

    some_room : {n : ℕ} (c : Control) → Fits n c → 1 ≤ n
    some_room _ (at fn is past some room w) = some
    some_room _ (turn fn t is e k room w) = room
    some_room _ (calling room w) = room
    some_room _ (returning fn is past some room w) = some

    burst_is : (n : ℕ) (c : Control) (r : Run) (s : Stop) → Fits n c → ((k : ℕ) → Fits (suc k) c
        → m.after_step r.left (m.burst ir rs k (rest r.left)) (rest r.left) (m.one_step ir rs c r) ≡ s)
        → m.burst ir rs n (rest r.left) c r ≡ s
    burst_is zero c r s fits h = absurd (omega (arith, some_room c fits))
    burst_is (suc k) c r s fits h = h k fits

    run_burst : (k : ℕ) (c : Control) (r : Run) → m.run_from ir rs k c r ≡ m.burst ir rs (m.steps_in ir.functions) (rest k) c r
    run_burst zero c r = refl
    run_burst (suc k) c r = refl

    -- a run that ends so ends within the bound
    bounded_step : {o : Outcome Control} {s : Stop} → Ends ir rs o s → (left n : ℕ)
        → Advance (Fits n) (Fits (m.steps_in ir.functions)) left o
        → m.after_step left (m.burst ir rs n (rest left)) (rest left) o ≡ s
    bounded_step (over fine) left n a = refl
    bounded_step (then_on {c} {r} {s} e) left n (on same fits) =
        subst (λ l. m.after_step l (m.burst ir rs n (rest l)) (rest l) (Went c r) ≡ s) same
        (ap (λ b. cond b (m.burst ir rs n (rest r.left) c r) (rest r.left c r)) (same_number r.left)
        ∙ burst_is n c r s fits (λ k h. bounded_step e r.left k (adv_step c r h)))
    bounded_step (then_on {c} {r} {s} e) left n (marked same fits) =
        subst (λ l. m.after_step l (m.burst ir rs n (rest l)) (rest l) (Went c r) ≡ s) same
        (ap (λ b. cond b (m.burst ir rs n (rest (suc r.left)) c r) (rest (suc r.left) c r)) (lower_number r.left)
        ∙ (run_burst r.left c r ∙ burst_is (m.steps_in ir.functions) c r s fits (λ k h. bounded_step e r.left k
        (adv_step c r h))))

    -- from the entry of a function, with nothing below
    pub bounded : (f : ℕ) (r : Run) (s : Stop) → 1 ≤ m.steps_in ir.functions → Ends ir rs (Went (Calling f 0 [] []) r) s
        → m.run_from ir rs r.left (Calling f 0 [] []) r ≡ s
    bounded f r s some (then_on e) =
        run_burst r.left (Calling f 0 [] []) r ∙ burst_is (m.steps_in ir.functions) (Calling f 0 [] []) r s
        (calling some none) (λ k h. bounded_step e r.left k (adv_step (Calling f 0 [] []) r h))

  -- ---- both ways

  not_wrong : {A : Type 0} → IsFine Wrong → A
  not_wrong x = elim x [ ]

  fine_of : {t s : Stop} → Ends ir rs (Stopped t) s → IsFine t
  fine_of (over fine) = fine

  -- a run that begins at an entry and goes on finds a step there
  entered : (f : ℕ) (r : Run) (s : Stop) → Ends ir rs (m.one_step ir rs (Calling f 0 [] []) r) s → 1 ≤ m.steps_in ir.functions
  unfolding m.step_in m.found
  entered f r s e = by_function (slice_get ir.functions f) refl e
    where
      by_step : (fn : IrFunction) → slice_get ir.functions f ≡ Some fn → (o : Option Step) → slice_get fn.steps 0 ≡ o
          → Ends ir rs (m.found o (λ t. m.act_enter ir rs t.kind f fn [] []) r) s → 1 ≤ m.steps_in ir.functions
      by_step fn is None g e = not_wrong (fine_of e)
      by_step fn is (Some t) g e = let some : 0 < length fn.steps = short Step fn.steps 0 t g in
          let most : length fn.steps ≤ m.steps_in ir.functions = within ir.functions f fn is in omega arith

      by_function : (o : Option IrFunction) → slice_get ir.functions f ≡ o
          → Ends ir rs (m.found o (λ fn. m.found (slice_get fn.steps 0) (λ t. m.act_enter ir rs t.kind f fn [] [])) r) s
          → 1 ≤ m.steps_in ir.functions
      by_function None g e = not_wrong (fine_of e)
      by_function (Some fn) g e = by_step fn g (slice_get fn.steps 0) refl e

  pub within_the_bound : IsOrdered ir.functions → (n : ℕ) → EndsWithinTheBound ir rs n
  unfolding m.stop_at
  within_the_bound ordered n s (then_on e) = bounded ordered ir.main (m.start_run ir n) s (entered ir.main
      (m.start_run ir n) s e) (then_on e)

  after_ends : (left : ℕ) (go again : Control → Run → Stop) (o : Outcome Control)
      → ((c : Control) (r : Run) → IsFine (go c r) → Ends ir rs (Went c r) (go c r))
      → ((c : Control) (r : Run) → IsFine (again c r) → Ends ir rs (Went c r) (again c r))
      → IsFine (m.after_step left go again o) → Ends ir rs o (m.after_step left go again o)
  after_ends left go again (Stopped s) h g fine = over fine
  after_ends left go again (Went c r) h g fine = by_number (nat_eq r.left left) fine
    where
      by_number : (b : Bool) → IsFine (cond b (go c r) (again c r)) → Ends ir rs (Went c r) (cond b (go c r) (again c r))
      by_number true fine = h c r fine
      by_number false fine = g c r fine

  burst_ends : (n : ℕ) (again : Control → Run → Stop) → ((c : Control) (r : Run) → IsFine (again c r)
      → Ends ir rs (Went c r) (again c r))
      → (c : Control) (r : Run) → IsFine (m.burst ir rs n again c r) → Ends ir rs (Went c r) (m.burst ir rs n again c r)
  burst_ends zero again g c r fine = not_wrong fine
  burst_ends (suc n) again g c r fine =
      then_on (after_ends r.left (m.burst ir rs n again) again (m.one_step ir rs c r) (burst_ends n again g) g fine)

  run_ends : (n : ℕ) (c : Control) (r : Run) → IsFine (m.run_from ir rs n c r) → Ends ir rs (Went c r) (m.run_from ir rs n c r)
  run_ends zero c r fine = burst_ends (m.steps_in ir.functions) (λ c r. Wrong) (λ c r w. not_wrong w) c r fine
  run_ends (suc n) c r fine = burst_ends (m.steps_in ir.functions) (m.run_from ir rs n) (run_ends n) c r fine

  pub without_bound : (n : ℕ) → EndsWithoutBound ir rs n
  unfolding m.stop_at
  without_bound n fine = run_ends n (Calling ir.main 0 [] []) (m.start_run ir n) fine
