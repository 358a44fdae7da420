-- A step of a form makes one mark at most, and counts it.
use Rattle.std.proofs.Common.{◌≡◌, ℕ, zero, suc, ◌+◌, refl, arith, cond, Bool, true, false, ◌⊎◌, inl, inr, List, [], ◌∷◌, length, Option, Some, None}
use Rattle.std.specs.Prelude.{slice_get, nat_eq}
use Rattle.base16.specs.declared.reading.Reading.{Reading}
use Rattle.c_values.specs.declared.value.Location.{Location}
use Rattle.c_run.specs.declared.timed.Timed.{Timed}
use Rattle.c_run.specs.Actions.{timely, open_block, check_block, close_block}
use Rattle.c_run.specs.Runs.{Run, Live, Ended, NeedsReading, Undefined as Broken, Wrong, Outcome, Went, Stopped, Action, and_then, ◌>>=◌}
use Rattle.c_run.proofs.Counting.{Counts as Conserves, went, live, over}
use Rattle.ir.specs.declared.form.Ir.{Ir}
use Rattle.ir.specs.declared.form.IrFunction.{IrFunction}
use Rattle.ir.specs.declared.form.Step.{Step}
use Rattle.ir.specs.declared.form.StepKind.{StepKind}
use Rattle.ir.specs.declared.form.StepKind.TheVariants as step
use Rattle.ir.specs.declared.form.Target.{Target}
use Rattle.ir.specs.declared.form.Target.TheVariants as target
use Rattle.ir.specs.declared.control.Temporary.{Temporary}
use Rattle.ir.specs.declared.control.Temporary.TheVariants as temporary
use Rattle.ir.specs.declared.control.Frame.{Frame}
use Rattle.ir.specs.declared.control.Control.{Control}
use Rattle.ir.specs.declared.control.Control.TheVariants.{At, Calling, Returning}
use Rattle.ir.specs.Machine as m
use Rattle.ir.specs.Jumps.{Ahead}
use Rattle.ir.proofs.Advance.{Advance, halted, on, marked, Here, adv_act, adv_marked, adv_enter, adv_result, adv_step_in}
use Rattle.ir.proofs.Marks.{timely_marks, open_marks, checked_marks, close_marks}
use Rattle.steps430.proofs.Conserving.{counting_step}

-- a step goes on without a mark, or with one
abbrev pub Counts : Run → Outcome Control → Type 0
Counts r (Went c q) =
    ((q.left ≡ r.left) × (q.state.marks ≡ r.state.marks)) ⊎ ((suc q.left ≡ r.left) × (q.state.marks ≡ r.state.marks + 1))
Counts r (Stopped (Live s used)) = s.marks ≡ r.state.marks + suc r.left
Counts r (Stopped s) = Unit {0}

-- ---- one mark at most, wherever the run comes to

abbrev anywhere : Control → Type 0
anywhere c = Unit {0}

here : (fn : IrFunction) (f p : ℕ) (below : List Frame) → Here anywhere anywhere fn f p below
here fn f p below = record {
  ahead = λ to first ts lt. tt;
  turned = λ to first ts s e k. tt;
  called = λ g d first args ts. tt;
  anew = λ to first ts lt. tt;
  returned = λ v b rest e. tt;
}

-- a function with turns up to a place, to which a jump may go from everywhere
abbrev turn : Step
turn = record { node = 0; kind = step.Turn }

abbrev turns : ℕ → List Step
turns zero = turn ∷ []
turns (suc n) = turn ∷ turns n

abbrev turning : ℕ → IrFunction
turning n = record { frame = 0; params = 0; locals = []; steps = turns n }

turn_at : (n : ℕ) → slice_get (turns n) n ≡ Some turn
turn_at zero = refl
turn_at (suc n) = turn_at n

to_turn : (p to : ℕ) → Ahead (turning to) p to
to_turn p to = inr (turn, turn_at to, refl)

module _ (ir : Ir) (rs : List Reading) where
  on_names : (t to : ℕ) (f p first : ℕ) (ts : List Temporary) (below : List Frame) (r : Run) (go : List Timed → Action Bool)
      → ((names : List Timed) → Advance anywhere anywhere r.left (and_then (go names r) (m.flagged f p first below ts to)))
      → Advance anywhere anywhere r.left (m.found (slice_get ir.tables t)
      (λ names. go names >>= m.flagged f p first below ts to) r)
  unfolding m.found
  on_names t to f p first ts below r go h = from (slice_get ir.tables t)
    where
      from : (o : Option (List Timed))
          → Advance anywhere anywhere r.left (m.found o (λ names. go names >>= m.flagged f p first below ts to) r)
      from None = halted
      from (Some names) = h names

  one_act : (node : ℕ) (k : StepKind) (f p first : ℕ) (ts : List Temporary) (below : List Frame) (r : Run)
      → Advance anywhere anywhere r.left (m.act ir rs node k f p first ts below r)
  unfolding m.on_target m.on_place m.at_depth m.if_in
  one_act node (step.Jump to) f p first ts below r =
      adv_act ir rs (here (turning to) f p below) node (step.Jump to) first ts r (to_turn p to)
  one_act node (step.Branch d t of when to) f p first ts below r =
      adv_act ir rs (here (turning to) f p below) node (step.Branch d t of when to) first ts r (to_turn p to)
  one_act node (step.Case d of n to) f p first ts below r =
      adv_act ir rs (here (turning to) f p below) node (step.Case d of n to) first ts r (to_turn p to)
  one_act node (step.Open t to) f p first ts below r =
      on_names t to f p first ts below r (open_block rs) (λ names. adv_marked r refl _ _ (open_marks rs names r)
      (λ b q e. marked e tt))
  one_act node (step.Check t to) f p first ts below r =
      on_names t to f p first ts below r (check_block rs) (λ names. adv_marked r refl _ _ (checked_marks rs names r)
      (λ b q e. marked e tt))
  one_act node (step.Close t to) f p first ts below r =
      on_names t to f p first ts below r (close_block rs) (λ names. adv_marked r refl _ _ (close_marks rs names r)
      (λ b q e. marked e tt))
  one_act node (step.Timely d n of k limit to) f p first ts below r = from of ts
    where
      inside : (l : Location) (us : List Temporary) (b : Bool) → Advance anywhere anywhere r.left
          (and_then (cond b (timely rs node l k (m.stamp_in 0 ir.globals n l.offset) limit) m.stuck r)
          (m.flagged f p first below us to))
      inside l us true = adv_marked r refl _ _ (timely_marks rs node l k (m.stamp_in 0 ir.globals n l.offset) limit r)
          (λ b q e. marked e tt)
      inside l us false = halted

      deep : (l : Location) (us : List Temporary) (b : Bool) → Advance anywhere anywhere r.left
          (cond b (m.if_in n l (timely rs node l k
          (m.stamp_in 0 ir.globals n l.offset) limit) >>= m.flagged f p first below us to) m.stuck r)
      deep l us true = inside l us (m.is_in n l.object)
      deep l us false = halted

      from : (x : Target) (us : List Temporary) → Advance anywhere anywhere r.left (m.on_target first x us
          (λ l vs. m.at_depth d vs (
          m.if_in n l (timely rs node l k (m.stamp_in 0 ir.globals n l.offset) limit) >>= m.flagged f p first below vs to)) r)
      from (target.Known b offset) us = deep (m.known first b offset) us (nat_eq (length us) d)
      from target.Temporary (temporary.Place l ∷ us) = deep l us (nat_eq (length us) d)
      from target.Temporary (temporary.Value v ∷ us) = halted
      from target.Temporary [] = halted
  one_act node k f p first ts below r = adv_act ir rs (here (turning 0) f p below) node k first ts r tt

  one_step_one : (c : Control) (r : Run) → Advance anywhere anywhere r.left (m.one_step ir rs c r)
  one_step_one (At f p first ts below) r =
      adv_step_in ir rs f p r _ (λ fn s e g. one_act s.node s.kind f p first ts below r)
  one_step_one (Calling f d args below) r =
      adv_step_in ir rs f 0 r _ (λ fn s e g. adv_enter ir rs f below s.kind fn args r (λ first. tt))
  one_step_one (Returning v []) r = halted
  one_step_one (Returning v (b ∷ below)) r =
      adv_step_in ir rs b.function b.position r _ (λ fn s e g. adv_result ir rs s.kind v b below r (λ plain ts. tt))

  pub counts_marks : (c : Control) (r : Run) → Counts r (m.one_step ir rs c r)
  counts_marks c r = from (m.one_step ir rs c r) (one_step_one c r) (counting_step ir rs c r)
    where
      from : (o : Outcome Control) → Advance anywhere anywhere r.left o → Conserves (r.state.marks + r.left) r.left o → Counts r o
      from (Went d q) (on e x) (went sum less) = inl (e, omega arith)
      from (Went d q) (marked e x) (went sum less) = inr (e, omega arith)
      from (Stopped (Live s used)) x (live e) = omega arith
      from (Stopped (Live s used)) x (over h) = absurd h
      from (Stopped (Ended kind s used)) x w = tt
      from (Stopped NeedsReading) x w = tt
      from (Stopped (Broken rule node)) x w = tt
      from (Stopped Wrong) x w = tt
