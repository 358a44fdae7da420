-- Where a declaration is reached, its object has no values: no cell changes.
use Rattle.std.proofs.Common.{◌≡◌, ℕ, ◌+◌, refl, sym, subst, Bool, true, false, List, [], ◌∷◌, map, reverse, Option, if◌then◌else◌}
use Rattle.std.specs.Prelude.{ℤ, nat_eq}
use Rattle.ideal430.specs.Settled.{Bytes}
use Rattle.c_run.specs.Actions.{kept}
use Rattle.c_values.specs.Objects.{cleared_cell, clear_object, with_cleared}
use Rattle.c_values.specs.declared.state.Call.{Call}
use Rattle.c_values.specs.declared.state.Object.{Object}
use Rattle.c_values.specs.declared.state.State.{State}
use Rattle.c_values.specs.declared.value.Cell.{Cell as Scalar}
use Rattle.c_values.specs.declared.value.Value.TheVariants.{Int, Undefined}
use Rattle.cells430.specs.Cells.{Cells}
use Rattle.core_tree.specs.LawfulCore.{Every}
use Rattle.ir.specs.declared.control.Frame.{Frame}
use Rattle.ir.specs.declared.form.StepKind.TheVariants as step
use Rattle.ir.specs.Machine.{act}
use Rattle.matching.specs.Covering.{HasCell, Covered}
use Rattle.matching.specs.Matches.{Placed, placed, encoded}
use Rattle.matching.proofs.Making.{cleared_made}
use Rattle.steps430.specs.Setting.{Setting, IsLaid}
use Rattle.steps430.specs.Holds.{Holds}
use Rattle.steps430.specs.Standing.{IsWhole, AreWhole, IsFilled, AreFilled, Stacked, Stage}
use Rattle.steps430.specs.Follows.{DoesStep}
use Rattle.steps430.proofs.Moves.{level, with_level}
use Rattle.steps430.proofs.Steps.{begins, falls, stands_now}
use Rattle.steps430.proofs.Stored.{changed_call, mapped, changed, reverse_map, placed_changed, encoded_same, holds_same, stacked_same, has_cell}

-- ---- each scalar of each object, where those of one are cleared

module _ (n : ℕ) (P Q : ℕ → Scalar → Type 0) (here : (b : ℕ) (c : Scalar) → P b c → Q b (record c { value = Undefined }))
    (there : (b : ℕ) (c : Scalar) → P b c → Q b c) where
  in_object : (b : ℕ) (cs : List Scalar) → Every (P b) cs → Every (Q b) (map cleared_cell cs)
  in_object b [] h = tt
  in_object b (c ∷ cs) h = (here b c h.0, in_object b cs h.1)

  elsewhere : (b : ℕ) (cs : List Scalar) → Every (P b) cs → Every (Q b) cs
  elsewhere b [] h = tt
  elsewhere b (c ∷ cs) h = (there b c h.0, elsewhere b cs h.1)

  every_cleared : (ps : List Placed) → Every (λ q. Every (P q.address) q.object.cells) ps
      → Every (λ q. Every (Q q.address) q.object.cells) (map (changed (clear_object n)) ps)
  every_cleared [] h = tt
  every_cleared (q ∷ ps) h = (from (nat_eq q.object.number n), every_cleared ps h.1)
    where
      from : (t : Bool)
          → Every (Q q.address) (if t then record (q.object) { cells = map cleared_cell q.object.cells } else q.object).cells
      from true = in_object q.address q.object.cells h.0
      from false = elsewhere q.address q.object.cells h.0

no_int : {A : Type 0} (z : ℤ) → Undefined ≡ Int z → A
no_int z e = absurd (differ e)
  where
    differ : Undefined ≡ Int z → ⊥
    differ k = cc

no_value : {A : Type 0} → true ≡ false → A
no_value e = absurd (differ e)
  where
    differ : true ≡ false → ⊥
    differ k = cc

-- ---- the stage

module _ (p : Setting) (s : State) (next : ℕ) (frames : List Frame) (all own : Cells) (segment base sp : ℕ)
    (ps r m : ℕ → ℕ) (st : Bytes) where
  pub stage_cleared : (n : ℕ) → Stage p s next frames all own segment base sp ps r m st
      → Stage p (with_cleared n s) next frames all own segment base sp ps r m st
  unfolding with_cleared
  stage_cleared n h = record {
    ground = h.ground;
    shape = h.shape;
    facts = h.facts;
    words = h.words;
    stack = h.stack;
    part = h.part;
    covered = record {
      objects = subst (λ (qs : List Placed). Covered own qs qs) (sym (placed_changed f p.core s)) objects;
      stamps = h.covered.stamps;
      count = h.covered.count;
      outputs = h.covered.outputs;
    };
    made = cleared_made p.core next s n h.made;
    filled = subst (λ (qs : List Placed). AreFilled own qs) (sym (placed_changed f p.core s)) filled;
    whole = subst (λ (qs : List Placed). AreWhole qs) (sym (placed_changed f p.core s)) whole;
    outputs = h.outputs;
    stacked = subst (λ (cs : List Call). Stacked p all own segment base frames cs) (sym (reverse_map (changed_call f) s.calls))
        (stacked_same f same p all own segment base frames (reverse s.calls) h.stacked);
    holds = subst (λ (cs : List Call). Holds p.ir all (placed p.core (kept (mapped f s))) frames cs)
        (sym (reverse_map (changed_call f) s.calls))
        (subst (λ (qs : List Placed). Holds p.ir all qs frames (map (changed_call f) (reverse s.calls))) (sym
        (placed_changed f p.core s))
        (holds_same f same p all alive frames (reverse s.calls) h.holds));
    no_block = h.no_block;
  }
    where
      alive : List Placed
      alive = placed p.core (kept s)

      f : Object → Object
      f = clear_object n

      same : (o : Object) → (clear_object n o).number ≡ o.number
      same o = from (nat_eq o.number n)
        where
          from : (t : Bool) → (if t then record o { cells = map cleared_cell o.cells } else o).number ≡ o.number
          from true = refl
          from false = refl

      objects : Covered own (map (changed f) alive) (map (changed f) alive)
      objects =
          every_cleared n (λ b c. HasCell own (b + c.offset) c.kind (encoded alive c.kind c.value))
          (λ b c. HasCell own (b + c.offset) c.kind (encoded (map (changed f) alive) c.kind c.value))
          (λ b c z. has_cell own (b + c.offset) c.kind (encoded alive c.kind c.value) z)
          (λ b c z. subst (λ (o : Option ℕ). HasCell own (b + c.offset) c.kind o) (sym
          (encoded_same f same alive c.kind c.value)) z)
          alive h.covered.objects

      filled : AreFilled own (map (changed f) alive)
      filled =
          every_cleared n (IsFilled own) (IsFilled own) (λ b c z. record { word = λ d. no_value d }) (λ b c z. z) alive h.filled

      whole : AreWhole (map (changed f) alive)
      whole = every_cleared n (λ b c. IsWhole c) (λ b c. IsWhole c) (λ b c z. record { same = λ i j. no_int i j })
          (λ b c z. z) alive h.whole

module _ (p : Setting) (lay : IsLaid p) where
  pub undefine_does : (n : ℕ) → DoesStep p 0 (step.Undefine n)
  unfolding with_cleared
  undefine_does n f q first ts ls node r t e h =
      begins p lay 0 (act p.ir p.readings node (step.Undefine n) f q first ts ls r) (step.Undefine n) f q first node ts ls r t e h
      (λ all own segment sp ps rr m st y stage low stands code.
      stands_now p lay 0 f q (q + 1) first ts ts ls (record r {
        state = with_cleared
            (first + n) r.state;
      }) all own segment sp ps rr m st y
      (with_level p (with_cleared (first + n) r.state) r.next all own segment sp sp ps f q (q + 1) first ts ts ls rr m st
      (λ a k. k)
      (stage_cleared p r.state r.next (level f q first ts ∷ ls) all own segment sp sp ps rr m st (first + n) stage)) low
      (falls p lay (step.Undefine n) f q node (rr 0) tt stands code))
