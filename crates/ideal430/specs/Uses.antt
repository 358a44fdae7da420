-- What an instruction and its service use of memory, and what it is to use settled bytes alone.
use Rattle.std.specs.Prelude.{ℕ, zero, suc, ◌+◌, ◌<◌, false, ◌&&◌, ◌||◌, Option, Some, None}
use Rattle.base16.specs.Board.{outputs_start}
use Rattle.core430.specs.Step.{Outcome, Next, Service as Calls, Wild, step}
use Rattle.ideal430.specs.Places.{is_in_word}
use Rattle.ideal430.specs.Service.{service_at, is_linked}
use Rattle.ideal430.specs.Settled.{Bytes}
use Rattle.core430.specs.Uses.{step_uses, IsWithin}
use Rattle.ideal430.specs.Ideal.{Ideal, moved, free, run}
use Rattle.ideal430.specs.declared.state.IdealEnd.{IdealEnd}
use Rattle.ideal430.specs.declared.state.IdealEnd.TheVariants.{Running, Ended, NeedsReading}
use Rattle.ideal430.specs.declared.service.Service.{Service}
use Rattle.ideal430.specs.declared.service.Service.TheVariants.{Leave, Emit, Open, Check, Close, Timely}

-- the bytes of a stamp
abbrev pub stamp_uses : ℕ → Bytes
stamp_uses a b = is_in_word a b || is_in_word (a + 2) b

-- those of the rows of a check table, and of the stamps that they name
abbrev pub rows_use : (m : ℕ → ℕ) (row rows : ℕ) → Bytes
rows_use m row zero b = false
rows_use m row (suc rows) b =
    is_in_word row b || (is_in_word (row + 2) b || (is_in_word (row + 4) b
    || (stamp_uses (m row) b || rows_use m (row + 6) rows b)))

-- where a frame ends stands the function's return word, or the link word, which points to it
abbrev pub leave_uses : (m : ℕ → ℕ) (segment end : ℕ) → Bytes
leave_uses m segment end b = is_in_word end b || (is_linked segment end && is_in_word (m end) b)

-- The bytes of memory that a service uses: its return word, but for `leave`, whose PC is the function's return word; the
-- length of the outputs; check tables and stamps. What is noted, logged or put back does not count as used.
abbrev pub service_uses : Service → (r m : ℕ → ℕ) (segment : ℕ) → Bytes
service_uses Leave r m segment b = leave_uses m segment (r 1 + 2 + r 15) b
service_uses Emit r m segment b = is_in_word (r 1) b || is_in_word outputs_start b
service_uses Open r m segment b = is_in_word (r 1) b || rows_use m (r 14) (r 15) b
service_uses Check r m segment b = is_in_word (r 1) b || rows_use m (r 14) (r 15) b
service_uses Close r m segment b = is_in_word (r 1) b || rows_use m (r 14) (r 15) b
service_uses Timely r m segment b = is_in_word (r 1) b || stamp_uses (r 14) b
service_uses service r m segment b = is_in_word (r 1) b

abbrev pub uses_if_built : Option Service → (r m : ℕ → ℕ) (segment : ℕ) → Bytes
uses_if_built None r m segment b = false
uses_if_built (Some service) r m segment b = service_uses service r m segment b

abbrev pub uses_at : (n : ℕ) (r m : ℕ → ℕ) (segment : ℕ) → Bytes
uses_at n r m segment b = uses_if_built (service_at n) r m segment b

abbrev pub UsesAfter : Ideal → Outcome → Type 0
UsesAfter t (Next s) = Unit {0}
UsesAfter t (Calls n s) = IsWithin (uses_at n s.regs s.memory t.segment) (moved t s).settled
UsesAfter t (Wild a) = Unit {0}

abbrev pub UsesIf : IdealEnd → Ideal → Type 0
UsesIf Running t = IsWithin (step_uses t.core) t.settled × UsesAfter t (step free t.core)
UsesIf (Ended kind) t = Unit {0}
UsesIf NeedsReading t = Unit {0}

-- the next instruction, and then its service, use settled bytes alone; the return word of the service has just been
-- written by its call
abbrev pub UsesSettled : Ideal → Type 0
UsesSettled t = UsesIf t.status t

-- so do the first n
abbrev pub IsClean : ℕ → Ideal → Type 0
IsClean n t = (k : ℕ) → k < n → UsesSettled (run k t)
