-- How much a service takes at most.
use Rattle.std.specs.Prelude.{ℕ, ◌+◌, ◌≤◌, None}
use Rattle.ideal430.specs.Costs.{commit_ticks, effect_ticks, effect_entries}
use Rattle.ideal430.specs.Service.{Effect}
use Rattle.services.specs.Serving.{OnPower, OnCommit, committed_in}
use Rattle.services.specs.declared.serving.Served.{Served}
use Rattle.world.specs.World.{WorldState}

-- the ticks of a service that opens, checks and closes no block, its commit not counted
abbrev pub most_ticks : ℕ
most_ticks = 8

-- the entries of the undo log that it makes
abbrev pub most_entries : ℕ
most_entries = 2

-- An effect takes few ticks and makes few entries, where this segment works.
pub record IsShort (segment : ℕ) (e : Effect) : Type 0 where
  pub ticks : effect_ticks segment None e ≤ most_ticks
  pub entries : effect_entries segment e ≤ most_entries

-- A service spends few ticks where power stays and it commits nothing, and those of a commit besides in any case.
pub record SpendsFew (answer : Served) (old new : WorldState) : Type 0 where
  pub alone : OnPower answer (OnCommit (committed_in answer) (Unit {0}) (new.spent ≤ old.spent + most_ticks))
  pub whole : new.spent ≤ old.spent + (most_ticks + commit_ticks)
