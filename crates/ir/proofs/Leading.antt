-- What leads to what in a run of a form: the joints of proofs that a form does what something else does.
use Rattle.std.proofs.Common.{◌≡◌, ℕ, zero, suc, ◌+◌, List, [], ◌∷◌, ◌++◌, length, Some, Result, Ok, Err, true, refl, ap, ◌∙◌, subst, arith, cond}
use Rattle.std.proofs.lemmas.Bool.Decides.{nat_tests}
use Rattle.std.specs.Prelude.{slice_get, nat_eq}
use Rattle.base16.specs.declared.reading.Reading.{Reading}
use Rattle.c_values.specs.declared.value.Value.{Value}
use Rattle.c_run.specs.Runs.{Run, Stop, Live, Ended, NeedsReading, Undefined, Wrong, Outcome, Went, Stopped, Action, and_then, given, broken}
use Rattle.ir.specs.declared.form.Ir.{Ir}
use Rattle.ir.specs.declared.form.IrFunction.{IrFunction}
use Rattle.ir.specs.declared.form.Step.{Step}
use Rattle.ir.specs.declared.control.Temporary.TheVariants as temporary
use Rattle.ir.specs.Machine as m
use Rattle.ir.specs.Machine.{Control, At, Calling, Returning, Frame, Temporary}
use Rattle.ir.specs.Ends.{IsFine, live, ended, needs, Ends, then_on, over as ended_so}
use Rattle.ir.proofs.Holding.{Holds, over, holds_step}

-- these steps stand at this place
abbrev pub Stands : List Step → ℕ → List Step → Type 0
Stands all p [] = Unit {0}
Stands all p (s ∷ ss) = (slice_get all p ≡ Some s) × Stands all (p + 1) ss

pub stands_front : (all : List Step) (p : ℕ) (a b : List Step) → Stands all p (a ++ b) → Stands all p a
stands_front all p [] b h = tt
stands_front all p (i ∷ a) b h = (h.0, stands_front all (p + 1) a b h.1)

pub stands_back : (all : List Step) (p q : ℕ) (a b : List Step) → p + length a ≡ q → Stands all p (a ++ b) → Stands all q b
stands_back all p q [] b e h = let e2 : p ≡ q = omega (arith, e) in subst (λ n. Stands all n b) e2 h
stands_back all p q (i ∷ a) b e h = stands_back all (p + 1) q a b (omega (arith, e)) h.1

pub stands_at : (all : List Step) (p q : ℕ) (a : List Step) → p ≡ q → Stands all p a → Stands all q a
stands_at all p q a e h = subst (λ n. Stands all n a) e h

-- what is known of what an action gives
pub data Gives {A : Type 0} (P : A → Type 0) : Outcome A → Type 0 where
  gave : {a : A} {q : Run} → P a → Gives P (Went a q)
  stopped : {s : Stop} → Gives P (Stopped s)

module _ (ir : Ir) (rs : List Reading) where
  -- what ends so from the second, ends so from the first, where objects are as they came to life; and so they are at the second
  pub record Leads (o p : Outcome Control) : Type 0 where
    pub holds : Holds ir o → Holds ir p
    pub ends : Holds ir o → (s : Stop) → Ends ir rs p s → Ends ir rs o s

  pub leads_stop : (s t : Stop) → Ends ir rs (Stopped s) t → s ≡ t
  leads_stop s t (ended_so f) = refl

  pub leads_same : (o : Outcome Control) → Leads o o
  leads_same o = record { holds = λ h. h; ends = λ h s e. e }

  pub leads_step : (c : Control) (r : Run) → Leads (Went c r) (m.one_step ir rs c r)
  leads_step c r = record { holds = holds_step ir rs c r; ends = λ h s e. then_on e }

  pub leads_by : (o p q : Outcome Control) → Leads o p → Leads p q → Leads o q
  leads_by o p q a b = record { holds = λ h. b.holds (a.holds h); ends = λ h s e. a.ends h s (b.ends (a.holds h) s e) }

  -- the objects may be looked at
  pub leads_known : (o p : Outcome Control) → (Holds ir o → Leads o p) → Leads o p
  leads_known o p f = record { holds = λ h. (f h).holds h; ends = λ h. (f h).ends h }

  -- what follows an action may be led on, and so may what follows the rest of an action
  pub led : {A : Type 0} (o : Outcome A) (f g : A → Action Control) → ((a : A) (q : Run) → Leads (f a q) (g a q))
      → Leads (and_then o f) (and_then o g)
  led (Went a q) f g h = h a q
  led (Stopped s) f g h = leads_same (Stopped s)

  pub chain : {A B : Type 0} (o : Outcome A) (f : A → Action B) (k : B → Action Control) (g : A → Action Control)
      → ((a : A) (q : Run) → Leads (g a q) (and_then (f a q) k)) → Leads (and_then o g) (and_then (and_then o f) k)
  chain (Went a q) f k g h = h a q
  chain (Stopped s) f k g h = leads_same (Stopped s)

  pub chain_given : {A B : Type 0} (P : A → Type 0) (o : Outcome A) (f : A → Action B) (k : B → Action Control) (g : A
      → Action Control)
      → Gives P o → ((a : A) (q : Run) → P a → Leads (g a q) (and_then (f a q) k))
      → Leads (and_then o g) (and_then (and_then o f) k)
  chain_given P (Went a q) f k g (gave p) h = h a q p
  chain_given P (Stopped s) f k g w h = leads_same (Stopped s)

  abbrev FineStop : Stop → Type 0
  FineStop (Live s used) = Unit {0}
  FineStop (Ended k s used) = Unit {0}
  FineStop NeedsReading = Unit {0}
  FineStop (Undefined rule node) = ⊥
  FineStop Wrong = ⊥

  fine_stop : {s : Stop} → IsFine s → FineStop s
  fine_stop live = tt
  fine_stop ended = tt
  fine_stop needs = tt

  ended_fine : {s t : Stop} → Ends ir rs (Stopped s) t → FineStop s
  ended_fine (ended_so f) = fine_stop f

  not_broken : (n node : ℕ) → FineStop (broken n node) → ⊥
  not_broken zero node h = h
  not_broken (suc n) node h = h

  -- nothing is asked where what is followed is wrong
  pub past_wrong : (o : Outcome Control) → Leads o (Stopped Wrong)
  past_wrong o = record { holds = λ h. over; ends = λ h t e. absurd (not_broken 0 0 (ended_fine e)) }

  -- what is asked besides costs no step, since nothing is said where a rule is broken
  pub past_given : {A : Type 0} (node : ℕ) (x : Result A ℕ) (o : Outcome Control) (k : A → Action Control) (q : Run)
      → ((a : A) → Leads o (k a q)) → Leads o (and_then (given node x q) k)
  past_given node (Ok a) o k q h = h a
  past_given node (Err n) o k q h = record {
    holds = λ i. over;
    ends = λ i t e. absurd (not_broken n node (ended_fine e));
  }

  module _ (f : ℕ) (fn : IrFunction) (is : slice_get ir.functions f ≡ Some fn) where
    -- the step that stands at a place is made
    pub made : (p first : ℕ) (ts : List Temporary) (below : List Frame) (r : Run) (s : Step) → slice_get fn.steps p ≡ Some s
        → Leads (Went (At f p first ts below) r) (m.act ir rs s.node s.kind f p first ts below r)
    unfolding m.step_in m.found
    made p first ts below r s e = subst (λ o. Leads (Went (At f p first ts below) r) o) same
        (leads_step (At f p first ts below) r)
      where
        same : m.one_step ir rs (At f p first ts below) r ≡ m.act ir rs s.node s.kind f p first ts below r
        same = ap (λ o. m.found o (λ g. m.found (slice_get g.steps p) (λ s. m.act ir rs s.node s.kind f p first ts below)) r) is
            ∙ ap (λ o. m.found o (λ s. m.act ir rs s.node s.kind f p first ts below) r) e

-- ---- the temporaries that a step finds

pub same_number : (x : ℕ) → nat_eq x x ≡ true
same_number x = grind (arith, nat_tests)

pub same_depth : (x y : ℕ) → x ≡ y → nat_eq x y ≡ true
same_depth x y e = subst (λ z. nat_eq x z ≡ true) e (same_number x)

pub at_depth_is : (d : ℕ) (ts : List Temporary) (go : Action Control) → length ts ≡ d → m.at_depth d ts go ≡ go
unfolding m.at_depth
at_depth_is d ts go e = ap (λ b. cond b go m.stuck) (same_depth (length ts) d e)

-- arguments in order on the stack, the last on top
abbrev pub stacked : List Value → List Temporary → List Temporary
stacked [] ts = ts
stacked (v ∷ vs) ts = stacked vs (temporary.Value v ∷ ts)

args_more : (n : ℕ) (vs : List Value) (us : List Temporary) (acc : List Value) (go : List Value → List Temporary → Action Control)
    → m.on_args (n + length vs) (stacked vs us) acc go ≡ m.on_args n us (vs ++ acc) go
unfolding m.on_args m.on_value
args_more n [] us acc go = let e : n + 0 ≡ n = omega arith in ap (λ k. m.on_args k us acc go) e
args_more n (v ∷ vs) us acc go =
    let e : n + suc (length vs) ≡ suc n + length vs = omega arith in
    ap (λ k. m.on_args k (stacked vs (temporary.Value v ∷ us)) acc go) e ∙ args_more (suc n) vs (temporary.Value v ∷ us) acc go

append_none : (vs : List Value) → vs ++ [] ≡ vs
append_none [] = refl
append_none (v ∷ vs) = ap (λ l. v ∷ l) (append_none vs)

pub args_is : (n : ℕ) (vs : List Value) (ts : List Temporary) (go : List Value → List Temporary → Action Control)
    → length vs ≡ n → m.on_args n (stacked vs ts) [] go ≡ go vs ts
unfolding m.on_args
args_is n vs ts go e =
    let e2 : n ≡ 0 + length vs = omega (arith, e) in
    ap (λ k. m.on_args k (stacked vs ts) [] go) e2 ∙ (args_more 0 vs ts [] go ∙ ap (λ l. m.on_args 0 ts l go) (append_none vs))
