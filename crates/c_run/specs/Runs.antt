-- Runs: what goes on, how it stops, and actions one after the other.
use Rattle.std.specs.Prelude.{ℕ, zero, suc, ◌+◌, Result, Ok, Err}
use Rattle.base16.specs.declared.end.EndKind.{EndKind}
use Rattle.c_values.specs.declared.state.State.{State}

-- a run that goes on: its state, how many readings it took, how many marks it may still make before the one that stops
-- it, and how many objects came to life
pub record Run : Type 0 where
  pub state : State
  pub used : ℕ
  pub left : ℕ
  pub next : ℕ

-- how a run stopped: just after the mark that was asked for, at its own end, where it lacks a reading, or at a rule of
-- undefined behaviour and the node that breaks it. `Wrong` is met by no lawful program.
pub data Stop : Type 0 where
  Live : State → ℕ → Stop
  Ended : EndKind → State → ℕ → Stop
  NeedsReading : Stop
  Undefined : ℕ → ℕ → Stop
  Wrong : Stop

pub data Outcome (A : Type 0) : Type 0 where
  Went : A → Run → Outcome A
  Stopped : Stop → Outcome A

abbrev pub Action : Type 0 → Type 0
Action A = Run → Outcome A

abbrev pub and_then : {A B : Type 0} → Outcome A → (A → Action B) → Outcome B
and_then (Went a r) f = f a r
and_then (Stopped s) f = Stopped s

infixl 10 ◌>>=◌
abbrev pub ◌>>=◌ : {A B : Type 0} → Action A → (A → Action B) → Action B
p >>= f = λ r. and_then (p r) f

infixl 10 ◌>>◌
abbrev pub ◌>>◌ : {A B : Type 0} → Action A → Action B → Action B
p >> q = p >>= (λ _. q)

abbrev pub pure : {A : Type 0} → A → Action A
pure a = λ r. Went a r

abbrev pub stop : {A : Type 0} → Stop → Action A
stop s = λ r. Stopped s

-- a rule that is broken at a node; 0 is none of the rules
abbrev pub broken : ℕ → ℕ → Stop
broken zero node = Wrong
broken (suc rule) node = Undefined (suc rule) node

-- what is given, or the rule that is broken
abbrev pub given : {A : Type 0} → ℕ → Result A ℕ → Action A
given node (Ok a) = pure a
given node (Err rule) = stop (broken rule node)

-- what is asked of the state
abbrev pub asked : {A : Type 0} → ℕ → (State → Result A ℕ) → Action A
asked node f = λ r. given node (f r.state) r

-- a change of the state
abbrev pub changed : (State → State) → Action (Unit {0})
changed f = λ r. Went tt (record r { state = f r.state })

-- the run ends by itself
abbrev pub ended : {A : Type 0} → EndKind → Action A
ended kind = λ r. Stopped (Ended kind r.state r.used)

abbrev pub counted : State → State
counted s = record s { marks = s.marks + 1 }

abbrev pub mark_by : ℕ → Action (Unit {0})
mark_by zero = λ r. Stopped (Live (counted r.state) r.used)
mark_by (suc n) = λ r. Went tt (record r { state = counted r.state; left = n })

-- one mark, just after its effect
unfoldable pub mark : Action (Unit {0})
mark = λ r. mark_by r.left r
