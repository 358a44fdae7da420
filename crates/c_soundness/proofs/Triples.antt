-- What an action does from runs of which something holds: it goes on to others, with a value of which something holds,
-- or it stops, and where that is undefined one of the rules is broken.
use Rattle.std.proofs.Common.{◌<◌, ◌≡◌, ℕ, zero, suc, Bool, true, false, cond}
use Rattle.std.specs.Prelude.{◌&&◌, nat_le, Result, Ok, Err}
use Rattle.c_values.specs.declared.state.State.{State}
use Rattle.c_run.specs.Runs.{Run, Stop, Live, Ended, NeedsReading, Undefined, Wrong, Outcome, Went, Stopped, Action, and_then, ◌>>=◌, ◌>>◌, pure, stop, given, asked, changed}

-- the rules are those from 1 to 12
abbrev pub is_rule : ℕ → Bool
is_rule n = nat_le 1 n && nat_le n 12

-- what is given is fit, and a rule that is broken is one of the rules
abbrev pub Granted : {A : Type 0} → (A → Type 0) → Result A ℕ → Type 0
Granted P (Ok a) = P a
Granted P (Err rule) = is_rule rule ≡ true

-- it is broken at one of the nodes, of which there are so many
abbrev pub ByRules : ℕ → Stop → Type 0
ByRules many (Live s used) = Unit {0}
ByRules many (Ended kind s used) = Unit {0}
ByRules many NeedsReading = Unit {0}
ByRules many (Undefined rule node) = (is_rule rule ≡ true) × (node < many)
ByRules many Wrong = ⊥

-- what needs no claim
abbrev pub Any : {A : Type 0} → A → Type 0
Any a = Unit {0}

pub data Sound {A : Type 0} (many : ℕ) (W : Run → Type 0) (P : A → Type 0) : Outcome A → Type 0 where
  goes_on : {a : A} {r : Run} → P a → W r → Sound many W P (Went a r)
  stops : {st : Stop} → ByRules many st → Sound many W P (Stopped st)

pub record Triple {A : Type 0} (many : ℕ) (V W : Run → Type 0) (P : A → Type 0) (p : Action A) : Type 0 where
  pub runs : (r : Run) → V r → Sound many W P (p r)

-- from such runs to such runs
abbrev pub Keeps : {A : Type 0} → ℕ → (Run → Type 0) → (A → Type 0) → Action A → Type 0
Keeps many W P p = Triple many W W P p

pub sound_then : {A B : Type 0} {many : ℕ} {W U : Run → Type 0} {P : A → Type 0} {Q : B → Type 0} {o : Outcome A}
    (f : A → Action B)
    → Sound many W P o → ((a : A) → P a → Triple many W U Q (f a)) → Sound many U Q (and_then o f)
sound_then f (goes_on {a} {r} h w) c = (c a h).runs r w
sound_then f (stops h) c = stops h

pub t_then : {A B : Type 0} {many : ℕ} {V W U : Run → Type 0} {P : A → Type 0} {Q : B → Type 0} {p : Action A} {f : A → Action B}
    → Triple many V W P p → ((a : A) → P a → Triple many W U Q (f a)) → Triple many V U Q (p >>= f)
t_then {f} h c = record { runs = λ r v. sound_then f (h.runs r v) c }

pub t_seq : {A B : Type 0} {many : ℕ} {V W U : Run → Type 0} {P : A → Type 0} {Q : B → Type 0} {p : Action A} {q : Action B}
    → Triple many V W P p → Triple many W U Q q → Triple many V U Q (p >> q)
t_seq h i = t_then h (λ _ _. i)

pub t_pure : {A : Type 0} {many : ℕ} {V : Run → Type 0} {P : A → Type 0} (a : A) → P a → Keeps many V P (pure a)
t_pure a h = record { runs = λ r v. goes_on h v }

pub sound_weak : {A : Type 0} {many : ℕ} {W U : Run → Type 0} {P Q : A → Type 0} {o : Outcome A} → ((a : A) → P a → Q a)
    → ((r : Run) → W r → U r) → Sound many W P o → Sound many U Q o
sound_weak f g (goes_on {a} {r} h w) = goes_on (f a h) (g r w)
sound_weak f g (stops h) = stops h

pub t_weak : {A : Type 0} {many : ℕ} {V W U : Run → Type 0} {P Q : A → Type 0} {p : Action A} → ((a : A) → P a → Q a)
    → ((r : Run) → W r → U r) → Triple many V W P p → Triple many V U Q p
t_weak f g h = record { runs = λ r v. sound_weak f g (h.runs r v) }

pub t_value : {A : Type 0} {many : ℕ} {V W : Run → Type 0} {P Q : A → Type 0} {p : Action A} → ((a : A) → P a → Q a)
    → Triple many V W P p → Triple many V W Q p
t_value f h = t_weak f (λ r w. w) h

pub t_from : {A : Type 0} {many : ℕ} {U V W : Run → Type 0} {P : A → Type 0} {p : Action A} → ((r : Run) → U r → V r)
    → Triple many V W P p
    → Triple many U W P p
t_from g h = record { runs = λ r u. h.runs r (g r u) }

pub sound_given : {A : Type 0} {many : ℕ} {V : Run → Type 0} (P : A → Type 0) (node : ℕ) (found : Result A ℕ) (r : Run)
    → node < many → Granted P found → V r → Sound many V P (given node found r)
sound_given P node (Ok a) r own h v = goes_on h v
sound_given P node (Err zero) r own h v = absurd cc
sound_given P node (Err (suc n)) r own h v = stops (h, own)

pub t_given : {A : Type 0} {many : ℕ} {V : Run → Type 0} {P : A → Type 0} (node : ℕ) → node < many → (found : Result A ℕ)
    → Granted P found → Keeps many V P (given node found)
t_given {P} node own found h = record { runs = λ r v. sound_given P node found r own h v }

pub t_asked : {A : Type 0} {many : ℕ} {V : Run → Type 0} {P : A → Type 0} (node : ℕ) → node < many → (f : State → Result A ℕ)
    → ((r : Run) → V r → Granted P (f r.state)) → Keeps many V P (asked node f)
t_asked {P} node own f h = record { runs = λ r v. sound_given P node (f r.state) r own (h r v) v }

pub t_if : {A : Type 0} {many : ℕ} {V W : Run → Type 0} {P : A → Type 0} (x : Bool) {p q : Action A} → Triple many V W P p
    → Triple many V W P q
    → Triple many V W P (cond x p q)
t_if true h i = h
t_if false h i = i

pub t_changed : {many : ℕ} {V W : Run → Type 0} (f : State → State) → ((r : Run) → V r → W (record r { state = f r.state }))
    → Triple many V W (Any {A = Unit {0}}) (changed f)
t_changed f h = record { runs = λ r v. goes_on tt (h r v) }

pub t_stop : {A : Type 0} {many : ℕ} {V W : Run → Type 0} {P : A → Type 0} (s : Stop) → ByRules many s → Triple many V W P
    (stop {A = A} s)
t_stop s h = record { runs = λ r v. stops h }

pub granted_weak : {A : Type 0} {P Q : A → Type 0} (x : Result A ℕ) → ((a : A) → P a → Q a) → Granted P x → Granted Q x
granted_weak (Ok a) h i = h a i
granted_weak (Err n) h i = i

pub granted_if : {A : Type 0} (P : A → Type 0) (b : Bool) (x y : Result A ℕ) → Granted P x → Granted P y → Granted P (cond b x y)
granted_if P true x y h i = h
granted_if P false x y h i = i
