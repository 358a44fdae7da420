-- Runs: one after another, with more readings, and with other things in what has no effect.
use Rattle.std.proofs.Common.{◌≡◌, ℕ, zero, suc, ◌+◌, Bool, true, false, nat_eq, refl, sym, ap, ◌∙◌, subst, arith, ◌⊎◌, inl, inr, List, [], ◌∷◌, ◌++◌, append_assoc, add-zero, add-suc, if◌then◌else◌}
use Rattle.base16.specs.declared.reading.Reading.{Reading}
use Rattle.base16.specs.declared.reading.Reading.TheVariants as reading
use Rattle.core430.specs.Step.{State, Outcome, Next, Service as Calls, Wild, step}
use Rattle.ideal430.specs.Service.{Deed, Refuses, Does}
use Rattle.ideal430.specs.Settled.{Bytes}
use Rattle.ideal430.specs.Ideal.{Ideal, Meter, stopped, moved, doing, deed_here, ask_here, with_left, sensing, timing, asking, after, free, next_if, next, run, with_more}
use Rattle.ideal430.specs.Uses.{UsesAfter, UsesIf, UsesSettled, IsClean}
use Rattle.ideal430.specs.Agreement.{SameButWatched, Claim}
use Rattle.ideal430.specs.declared.service.Ask.{Ask}
use Rattle.ideal430.specs.declared.service.Ask.TheVariants.{Nothing, Sensor, Clock}
use Rattle.ideal430.specs.declared.state.IdealEnd.{IdealEnd}
use Rattle.ideal430.specs.declared.state.IdealEnd.TheVariants.{Running, Ended, NeedsReading}
use Rattle.ideal430.proofs.Running.{next-stopped}

-- ---- a run after a run

pub run-add : (i j : ℕ) (t : Ideal) → run (i + j) t ≡ run j (run i t)
run-add i zero t = ap (λ n. run n t) (add-zero i)
run-add i (suc j) t = ap (λ n. run n t) (add-suc i j) ∙ ap next (run-add i j t)

-- ---- more readings

abbrev pub Waits : IdealEnd → Type 0
Waits status = status ≡ NeedsReading

doing-more : (t : Ideal) (more : List Reading) (d : Deed) → doing (with_more t more) d ≡ with_more (doing t d) more
doing-more t more (Refuses kind) = refl
doing-more t more (Does e) = refl

doing-left : (t : Ideal) (rest more : List Reading) (d : Deed)
    → doing (with_left t (rest ++ more)) d ≡ with_more (doing (with_left t rest) d) more
doing-left t rest more (Refuses kind) = refl
doing-left t rest more (Does e) = refl

sensing-more : (n : ℕ) (t : Ideal) (more : List Reading) (channel : ℕ) (left : List Reading)
    → (Waits (sensing n t channel left).status → ⊥)
    → sensing n (with_more t more) channel (left ++ more) ≡ with_more (sensing n t channel left) more
sensing-more n t more channel [] h = absurd (h refl)
sensing-more n t more channel (reading.Sense c value ∷ rest) h = by (nat_eq c channel)
  where
    by : (b : Bool) → (if b then doing (with_left t (rest ++ more)) (deed_here n value t) else stopped
        (with_more t more) NeedsReading)
        ≡ with_more (if b then doing (with_left t rest) (deed_here n value t) else stopped t NeedsReading) more
    by true = doing-left t rest more (deed_here n value t)
    by false = refl
sensing-more n t more channel (reading.Clock ms ∷ rest) h = refl

timing-more : (n : ℕ) (t : Ideal) (more left : List Reading) → (Waits (timing n t left).status → ⊥)
    → timing n (with_more t more) (left ++ more) ≡ with_more (timing n t left) more
timing-more n t more [] h = absurd (h refl)
timing-more n t more (reading.Sense c value ∷ rest) h = refl
timing-more n t more (reading.Clock ms ∷ rest) h = doing-left t rest more (deed_here n ms t)

asking-more : (n : ℕ) (t : Ideal) (more : List Reading) (ask : Ask) → (Waits (asking n t ask).status → ⊥)
    → asking n (with_more t more) ask ≡ with_more (asking n t ask) more
asking-more n t more Nothing h = doing-more t more (deed_here n 0 t)
asking-more n t more (Sensor channel) h = sensing-more n t more channel t.left h
asking-more n t more Clock h = timing-more n t more t.left h

after-more : (t : Ideal) (more : List Reading) (o : Outcome) → (Waits (after t o).status → ⊥)
    → after (with_more t more) o ≡ with_more (after t o) more
after-more t more (Next s) h = refl
after-more t more (Calls n s) h = asking-more n (moved t s) more (ask_here n (moved t s)) h
after-more t more (Wild a) h = refl

if-more : (status : IdealEnd) (t : Ideal) (more : List Reading) → (Waits (next_if status t).status → ⊥)
    → next_if status (with_more t more) ≡ with_more (next_if status t) more
if-more Running t more h = after-more t more (step free t.core) h
if-more (Ended kind) t more h = refl
if-more NeedsReading t more h = refl

pub next-more : (t : Ideal) (more : List Reading) → (Waits (next t).status → ⊥)
    → next (with_more t more) ≡ with_more (next t) more
next-more t more h = if-more t.status t more h

running-not : (status : IdealEnd) → Waits status → status ≡ Running → ⊥
running-not status w e = cc

waits-on : (t : Ideal) → Waits t.status → Waits (next t).status
waits-on t w = subst (λ (x : Ideal). Waits x.status) (sym (next-stopped t (running-not t.status w))) w

-- more readings change nothing until the first that is missing
pub run-more : (n : ℕ) (t : Ideal) (more : List Reading) → (Waits (run n t).status → ⊥)
    → run n (with_more t more) ≡ with_more (run n t) more
run-more zero t more h = refl
run-more (suc n) t more h = ap next (run-more n t more (λ w. h (waits-on (run n t) w))) ∙ next-more (run n t) more h

-- ---- what is used does not depend on the readings that are left

uses-after : (t : Ideal) (more : List Reading) (o : Outcome) → UsesAfter (with_more t more) o → UsesAfter t o
uses-after t more (Next s) h = tt
uses-after t more (Calls n s) h = h
uses-after t more (Wild a) h = tt

uses-less : (status : IdealEnd) (t : Ideal) (more : List Reading) → UsesIf status (with_more t more) → UsesIf status t
uses-less Running t more h = (h.0, uses-after t more (step free t.core) h.1)
uses-less (Ended kind) t more h = tt
uses-less NeedsReading t more h = tt

waits-or : (status : IdealEnd) → Waits status ⊎ (Waits status → ⊥)
waits-or Running = inr (λ h. no h)
  where
    no : Running ≡ NeedsReading → ⊥
    no k = cc
waits-or (Ended kind) = inr (λ h. no h)
  where
    no : Ended kind ≡ NeedsReading → ⊥
    no k = cc
waits-or NeedsReading = inl refl

waits-uses : (t : Ideal) → Waits t.status → UsesSettled t
waits-uses t w = subst (λ (s : IdealEnd). UsesIf s t) (sym w) tt

pub clean-less : (n : ℕ) (t : Ideal) (more : List Reading) → IsClean n (with_more t more) → IsClean n t
clean-less n t more h = λ k l. elim (waits-or (run k t).status) [
  | inl w ↦ waits-uses (run k t) w
  | inr w ↦ uses-less (run k t).status (run k t) more (subst UsesSettled (run-more k t more w) (h k l))
]

-- ---- one instruction more

runs-or : (t : Ideal) → t.status ≡ Running → Waits t.status → ⊥
runs-or t e w = running-not t.status w e

-- A claim of n instructions leads to one of the next, which takes the readings rs: of the machine before it and after it.
pub claim-next : (start : Ideal) (readings rs : List Reading) (n : ℕ) (P : Ideal → Type 0) (Q : Ideal → Ideal → Type 0)
    → ((t : Ideal) → P t → t.status ≡ Running)
    → ((t : Ideal) → t.left ≡ [] → P t → UsesSettled (with_more t rs) → ((next (with_more t rs)).left ≡ [])
    × Q (with_more t rs) (next (with_more t rs)))
    → Claim start readings n P → Claim start (readings ++ rs) (suc n) (Q (run n (with_more start (readings ++ rs))))
claim-next start readings rs n P Q runs step-to claim clean =
    let more : with_more start (readings ++ rs)
    ≡ with_more (with_more start readings) rs = ap (with_left start) (sym (append_assoc start.left readings rs)) in
    let c2 : IsClean (suc n) (with_more (with_more start readings) rs) = subst (IsClean (suc n)) more clean in
    let c1 : IsClean n (with_more (with_more start readings) rs) = λ k l. c2 k (omega arith) in
    let here = claim (clean-less n (with_more start readings) rs c1) in
    let t = run n (with_more start readings) in
    let e : run n (with_more (with_more start readings) rs)
    ≡ with_more t rs = run-more n (with_more start readings) rs (runs-or t (runs t here.1)) in
    let r : UsesSettled (with_more t rs) = subst UsesSettled e (c2 n (omega arith)) in
    let done = step-to t here.0 here.1 r in
    let f : with_more t rs ≡ run n (with_more start (readings ++ rs)) = sym e ∙ ap (run n) (sym more) in
    subst (λ (x : Ideal). ((next x).left ≡ []) × Q x (next x)) f done

pub claim-step : (start : Ideal) (readings rs : List Reading) (n : ℕ) (P Q : Ideal → Type 0)
    → ((t : Ideal) → P t → t.status ≡ Running)
    → ((t : Ideal) → t.left ≡ [] → P t → UsesSettled (with_more t rs) → ((next (with_more t rs)).left ≡ [])
    × Q (next (with_more t rs)))
    → Claim start readings n P → Claim start (readings ++ rs) (suc n) Q
claim-step start readings rs n P Q runs step-to claim = claim-next start readings rs n P (λ t. Q) runs step-to claim

-- ---- what has no effect

-- the machine with other things in what has no effect
abbrev watched : Ideal → Bytes → (ℕ → ℕ) → List Bytes → Meter → Ideal
watched t settled pointers earlier meter = record t { settled = settled; pointers = pointers; earlier = earlier; meter = meter }

same : (t u : Ideal) → t.core ≡ u.core → t.segment ≡ u.segment → t.block ≡ u.block → t.marks ≡ u.marks → t.left ≡ u.left
    → t.status ≡ u.status → SameButWatched t u
same t u c s b m l e = record { core = c; segment = s; block = b; marks = m; left = l; status = e }

doing-watched : (t : Ideal) (s : Bytes) (p : ℕ → ℕ) (f : List Bytes) (q : Meter) (rest : List Reading) (d : Deed)
    → SameButWatched (doing (with_left t rest) d) (doing (with_left (watched t s p f q) rest) d)
doing-watched t s p f q rest (Refuses kind) = same _ _ refl refl refl refl refl refl
doing-watched t s p f q rest (Does e) = same _ _ refl refl refl refl refl refl

sensing-watched : (n : ℕ) (t : Ideal) (s : Bytes) (p : ℕ → ℕ) (f : List Bytes) (q : Meter) (channel : ℕ) (left : List Reading)
    → SameButWatched (sensing n t channel left) (sensing n (watched t s p f q) channel left)
sensing-watched n t s p f q channel [] = same _ _ refl refl refl refl refl refl
sensing-watched n t s p f q channel (reading.Sense c value ∷ rest) = by (nat_eq c channel)
  where
    by : (b : Bool) → SameButWatched (if b then doing (with_left t rest) (deed_here n value t) else stopped t NeedsReading)
        (if b then doing (with_left (watched t s p f q) rest) (deed_here n value t) else stopped (watched t s p f q) NeedsReading)
    by true = doing-watched t s p f q rest (deed_here n value t)
    by false = same _ _ refl refl refl refl refl refl
sensing-watched n t s p f q channel (reading.Clock ms ∷ rest) = same _ _ refl refl refl refl refl refl

timing-watched : (n : ℕ) (t : Ideal) (s : Bytes) (p : ℕ → ℕ) (f : List Bytes) (q : Meter) (left : List Reading)
    → SameButWatched (timing n t left) (timing n (watched t s p f q) left)
timing-watched n t s p f q [] = same _ _ refl refl refl refl refl refl
timing-watched n t s p f q (reading.Sense c value ∷ rest) = same _ _ refl refl refl refl refl refl
timing-watched n t s p f q (reading.Clock ms ∷ rest) = doing-watched t s p f q rest (deed_here n ms t)

asking-watched : (n : ℕ) (t : Ideal) (s : Bytes) (p : ℕ → ℕ) (f : List Bytes) (q : Meter) (ask : Ask)
    → SameButWatched (asking n t ask) (asking n (watched t s p f q) ask)
asking-watched n t s p f q Nothing = doing-watched t s p f q t.left (deed_here n 0 t)
asking-watched n t s p f q (Sensor channel) = sensing-watched n t s p f q channel t.left
asking-watched n t s p f q Clock = timing-watched n t s p f q t.left

after-watched : (t : Ideal) (s : Bytes) (p : ℕ → ℕ) (f : List Bytes) (q : Meter) (o : Outcome)
    → SameButWatched (after t o) (after (watched t s p f q) o)
after-watched t s p f q (Next v) = same _ _ refl refl refl refl refl refl
after-watched t s p f q (Calls n v) =
    let u = moved (watched t s p f q) v in
    asking-watched n (moved t v) u.settled u.pointers u.earlier u.meter (ask_here n (moved t v))
after-watched t s p f q (Wild a) = same _ _ refl refl refl refl refl refl

if-watched : (status : IdealEnd) (t : Ideal) (s : Bytes) (p : ℕ → ℕ) (f : List Bytes) (q : Meter)
    → SameButWatched (next_if status t) (next_if status (watched t s p f q))
if-watched Running t s p f q = after-watched t s p f q (step free t.core)
if-watched (Ended kind) t s p f q = same _ _ refl refl refl refl refl refl
if-watched NeedsReading t s p f q = same _ _ refl refl refl refl refl refl

-- a machine is another with its own things in what has no effect
watched-is : (t u : Ideal) → SameButWatched t u → watched t u.settled u.pointers u.earlier u.meter ≡ u
watched-is t u h =
    ap (λ (c : State). record u {
      core = c;
      segment = t.segment;
      block = t.block;
      marks = t.marks;
      left = t.left;
      status = t.status;
    }) h.core
    ∙ ap (λ s. record u { segment = s; block = t.block; marks = t.marks; left = t.left; status = t.status }) h.segment
    ∙ ap (λ b. record u { block = b; marks = t.marks; left = t.left; status = t.status }) h.block
    ∙ ap (λ m. record u { marks = m; left = t.left; status = t.status }) h.marks
    ∙ ap (λ l. record u { left = l; status = t.status }) h.left
    ∙ ap (λ e. record u { status = e }) h.status

pub next-watched : (t u : Ideal) → SameButWatched t u → SameButWatched (next t) (next u)
next-watched t u h =
    subst (λ (x : Ideal). SameButWatched (next t) (next x)) (watched-is t u h)
    (if-watched t.status t u.settled u.pointers u.earlier u.meter)

pub run-watched : (n : ℕ) (t u : Ideal) → SameButWatched t u → SameButWatched (run n t) (run n u)
run-watched zero t u h = h
run-watched (suc n) t u h = next-watched (run n t) (run n u) (run-watched n t u h)

-- ---- marks

abbrev pub CountsOn : (before after : ℕ) → Type 0
CountsOn before after = (after ≡ before) ⊎ (after ≡ before + 1)

doing-counts : (t : Ideal) (d : Deed) → CountsOn t.marks (doing t d).marks
doing-counts t (Refuses kind) = inl refl
doing-counts t (Does e) = by e.marks
  where
    by : (b : Bool) → CountsOn t.marks (if b then t.marks + 1 else t.marks)
    by true = inr refl
    by false = inl refl

sensing-counts : (n : ℕ) (t : Ideal) (channel : ℕ) (left : List Reading) → CountsOn t.marks (sensing n t channel left).marks
sensing-counts n t channel [] = inl refl
sensing-counts n t channel (reading.Sense c value ∷ rest) = by (nat_eq c channel)
  where
    by : (b : Bool) → CountsOn t.marks
        (if b then doing (with_left t rest) (deed_here n value t) else stopped t NeedsReading).marks
    by true = doing-counts (with_left t rest) (deed_here n value t)
    by false = inl refl
sensing-counts n t channel (reading.Clock ms ∷ rest) = inl refl

timing-counts : (n : ℕ) (t : Ideal) (left : List Reading) → CountsOn t.marks (timing n t left).marks
timing-counts n t [] = inl refl
timing-counts n t (reading.Sense c value ∷ rest) = inl refl
timing-counts n t (reading.Clock ms ∷ rest) = doing-counts (with_left t rest) (deed_here n ms t)

asking-counts : (n : ℕ) (t : Ideal) (ask : Ask) → CountsOn t.marks (asking n t ask).marks
asking-counts n t Nothing = doing-counts t (deed_here n 0 t)
asking-counts n t (Sensor channel) = sensing-counts n t channel t.left
asking-counts n t Clock = timing-counts n t t.left

after-counts : (t : Ideal) (o : Outcome) → CountsOn t.marks (after t o).marks
after-counts t (Next s) = inl refl
after-counts t (Calls n s) = asking-counts n (moved t s) (ask_here n (moved t s))
after-counts t (Wild a) = inl refl

if-counts : (status : IdealEnd) (t : Ideal) → CountsOn t.marks (next_if status t).marks
if-counts Running t = after-counts t (step free t.core)
if-counts (Ended kind) t = inl refl
if-counts NeedsReading t = inl refl

pub next-counts : (t : Ideal) → CountsOn t.marks (next t).marks
next-counts t = if-counts t.status t
