-- The ticks of power cycles: where in its cycle an attempt goes on, how a commit and an end lie within the cycle, and how power
-- cuts an attempt.
use Rattle.std.specs.Prelude.{◌≡◌, ℕ, ◌+◌, ◌<◌, ◌≤◌, List, [], ◌∷◌, ◌++◌}
use Rattle.base16.specs.declared.end.EndKind.{EndKind}
use Rattle.core430.specs.Step.{State, Service as Calls, step}
use Rattle.ideal430.specs.Ideal.{Ideal, moved, did, free, with_left}
use Rattle.ideal430.specs.Service.{Effect}
use Rattle.ideal430.specs.declared.state.IdealEnd.TheVariants.{Running, Ended}
use Rattle.services.specs.Following.{ticks_behind}
use Rattle.services.specs.Serving.{stores_cut}

-- ---- the place in a power cycle

-- Where the records of a playing have come to, in ticks.
pub record Cursor : Type 0 where
  -- the ticks of each power cycle that has begun, in order
  pub begun : List ℕ
  -- those of the last one
  pub span : ℕ
  -- the tick of it at which its boot or its last commit is over: there the attempt begins that goes on
  pub at : ℕ
  -- the valid entries of the undo log that a boot finds
  pub valid : ℕ

-- before the first power cycle, with so many valid entries
abbrev pub unbegun : (valid : ℕ) → Cursor
unbegun valid = record { begun = []; span = 0; at = 0; valid = valid }

-- a power cycle of so many ticks begins; its boot takes a tick for each valid entry and 129 more
abbrev pub woken : Cursor → (span : ℕ) → Cursor
woken c span = record { begun = c.begun ++ span ∷ []; span = span; at = c.valid + 129; valid = c.valid }

-- an attempt of so many ticks ended in a commit, behind which no entry is valid
abbrev pub committed : Cursor → (ticks : ℕ) → Cursor
committed c ticks = record c { at = c.at + ticks; valid = 0 }

-- power failed, and so many entries are valid
abbrev pub cut : Cursor → (valid : ℕ) → Cursor
cut c valid = record c { valid = valid }

-- ---- the machine within a power cycle

-- The machine ended so, behind so many commits and within the cycle.
pub record EndsWithin (c : Cursor) (number : ℕ) (kind : EndKind) (t : Ideal) : Type 0 where
  pub status : t.status ≡ Ended kind
  pub commits : t.meter.commits ≡ number
  pub within : c.at + t.meter.ticks ≤ c.span

-- Power fails before the machine's next instruction: it runs, behind so many commits, and its ticks end with the cycle. Its
-- entries are valid.
pub record StopsAt (c : Cursor) (number valid : ℕ) (t : Ideal) : Type 0 where
  pub runs : t.status ≡ Running
  pub commits : t.meter.commits ≡ number
  pub ticks : c.at + t.meter.ticks ≡ c.span
  pub entries : t.meter.entries ≡ valid

-- Power fails in a service: the machine's next instruction, from t to v, lies within the cycle and calls it, and its effect,
-- with the commit where it is due, does not. The entries are valid that were made before, and those of its stores that were
-- completed in the ticks that were left.
pub record StopsWithin (c : Cursor) (number valid : ℕ) (t v : Ideal) : Type 0 where
  pub runs : t.status ≡ Running
  pub commits : t.meter.commits ≡ number
  pub n : ℕ
  pub s : State
  pub calls : step free t.core ≡ Calls n s
  pub effect : Effect
  pub is : v ≡ did (with_left (moved t s) []) effect
  pub left : ℕ
  pub ticks : c.at + (t.meter.ticks + 1) + left ≡ c.span
  pub beyond : c.span < c.at + ticks_behind number v.meter
  pub entries : t.meter.entries + stores_cut t.segment effect.stores left ≡ valid
