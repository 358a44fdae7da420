-- What is shown of a run, from how it stopped.
use Rattle.std.proofs.Common.{◌≡◌, ℕ, List, ◌++◌, ap, sym, subst}
use Rattle.base16.specs.declared.reading.Reading.{Reading}
use Rattle.core_tree.specs.declared.program.Core.{Core}
use Rattle.c_values.specs.declared.state.State.{State}
use Rattle.c_values.specs.declared.value.Value.{Value}
use Rattle.c_run.specs.Runs.{Run, Stop, Live, Ended, NeedsReading, Undefined, Wrong}
use Rattle.c_run.proofs.Counting.{IsOver}
use Rattle.c_meaning.specs.declared.outcome.CState.TheVariants as state
use Rattle.c_meaning.specs.After.{shown, used_in, stop_at}
use Rattle.c_meaning.specs.Laws.{IsStopped, IsLacking, StaysStopped, HasItsMarks, TakesWhatThereIs, DepthIsEnough}
use Rattle.c_meaning.proofs.CountingStatements.{live_marks}
use Rattle.c_meaning.proofs.Stays.{after_stays, used_stays, calls_more, used_at_most, readings_more}

over_shown : (st : Stop) → IsStopped (shown st) → IsOver st
over_shown (Live s x) h = absurd h
over_shown (Ended kind s x) h = tt
over_shown NeedsReading h = tt
over_shown (Undefined rule node) h = tt
over_shown Wrong h = tt

pub stays_stopped : (core : Core) (readings : List Reading) (s : ℕ) → StaysStopped core readings s
stays_stopped core readings s h k =
    let over = over_shown (stop_at core readings s) h in
    (after_stays core readings s k over, used_stays core readings s k over)

live_shown : (st : Stop) (live : State) → shown st ≡ state.Live live → st ≡ Live live (used_in st)
live_shown (Live s x) live e = let same : s ≡ live = cc in ap (λ (t : State). Live t x) same
live_shown (Ended kind s x) live e = cc
live_shown NeedsReading live e = cc
live_shown (Undefined rule node) live e = cc
live_shown Wrong live e = cc

pub has_its_marks : (core : Core) (readings : List Reading) (s : ℕ) → HasItsMarks core readings s
has_its_marks core readings s live e =
    live_marks core readings s live (used_in (stop_at core readings s)) (live_shown (stop_at core readings s) live e)

lacking_shown : (st : Stop) → (IsLacking (shown st) → ⊥) → st ≡ NeedsReading → ⊥
lacking_shown st h e = h (subst (λ (x : Stop). IsLacking (shown x)) (sym e) tt)

pub takes_what_there_is : (core : Core) (readings : List Reading) (s : ℕ) → TakesWhatThereIs core readings s
takes_what_there_is core readings s = (
  used_at_most core readings s,
  λ h more.
      let same : stop_at core (readings ++ more) s ≡ stop_at core readings s =
      readings_more core readings more s (lacking_shown (stop_at core readings s) h) in
      (ap shown same, ap used_in same),
)

pub depth_is_enough : (core : Core) (readings : List Reading) (function : ℕ) (args : List Value) (r : Run)
    → DepthIsEnough core readings function args r
depth_is_enough core readings function args r depth deeper h i = calls_more core readings depth deeper function args r h i
