-- How a run of a form ends, however many steps it makes from mark to mark.
use Rattle.std.specs.Prelude.{ℕ, List}
use Rattle.base16.specs.declared.end.EndKind.{EndKind}
use Rattle.base16.specs.declared.reading.Reading.{Reading}
use Rattle.c_values.specs.declared.state.State.{State}
use Rattle.c_run.specs.Runs.{Run, Stop, Live, Ended, NeedsReading, Outcome, Went, Stopped}
use Rattle.ir.specs.declared.form.Ir.{Ir}
use Rattle.ir.specs.Machine.{Control, one_step}

-- no rule is broken
pub data IsFine : Stop → Type 0 where
  live : {s : State} {used : ℕ} → IsFine (Live s used)
  ended : {kind : EndKind} {s : State} {used : ℕ} → IsFine (Ended kind s used)
  needs : IsFine NeedsReading

-- a run from here ends so, and no rule is broken
pub data Ends (ir : Ir) (rs : List Reading) : Outcome Control → Stop → Type 0 where
  over : {s : Stop} → IsFine s → Ends ir rs (Stopped s) s
  then_on : {c : Control} {r : Run} {s : Stop} → Ends ir rs (one_step ir rs c r) s → Ends ir rs (Went c r) s
