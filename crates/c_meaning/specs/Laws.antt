-- What holds of every run of a program: statements, which the laws of the crate show.
use Rattle.std.specs.Prelude.{◌≡◌, ℕ, ◌+◌, ◌≤◌, ◌<◌, List, ◌++◌, length}
use Rattle.base16.specs.declared.reading.Reading.{Reading}
use Rattle.core_tree.specs.declared.program.Core.{Core}
use Rattle.c_values.specs.declared.state.State.{State}
use Rattle.c_values.specs.declared.value.Value.{Value}
use Rattle.c_run.specs.Runs.{Run}
use Rattle.c_meaning.specs.declared.outcome.CState.{CState}
use Rattle.c_meaning.specs.declared.outcome.CState.TheVariants as state
use Rattle.c_meaning.specs.After.{after, used, calls}

-- the run is no more live
abbrev pub IsStopped : CState → Type 0
IsStopped (state.Live s) = ⊥
IsStopped _ = Unit {0}

-- a reading was lacking
abbrev pub IsLacking : CState → Type 0
IsLacking state.NeedsReading = Unit {0}
IsLacking _ = ⊥

-- a run that has stopped is stopped in the same way wherever a later mark is asked for, and took as many readings
abbrev pub StaysStopped : Core → List Reading → (s : ℕ) → Type 0
StaysStopped core readings s = IsStopped (after core readings s)
    → (k : ℕ) → (after core readings (s + k) ≡ after core readings s) × (used core readings (s + k) ≡ used core readings s)

-- a run that is live just after its s-th mark has made s marks
abbrev pub HasItsMarks : Core → List Reading → (s : ℕ) → Type 0
HasItsMarks core readings s = (live : State) → after core readings s ≡ state.Live live → live.marks ≡ s

-- no more readings are taken than there are, and others behind them change nothing, unless one was lacking
abbrev pub TakesWhatThereIs : Core → List Reading → (s : ℕ) → Type 0
TakesWhatThereIs core readings s = (used core readings s ≤ length readings)
    × ((IsLacking (after core readings s) → ⊥) → (more : List Reading)
    → (after core (readings ++ more) s ≡ after core readings s) × (used core (readings ++ more) s ≡ used core readings s))

-- calls nested in calls: a depth above the marks that are left is enough
abbrev pub DepthIsEnough : Core → List Reading → (function : ℕ) → List Value → Run → Type 0
DepthIsEnough core readings function args r = (depth deeper : ℕ) → r.left < depth → r.left < deeper
    → calls core readings depth function args r ≡ calls core readings deeper function args r
