-- What a function of an interpreter ensures: what the action answers, unless memory runs out.
use Rattle.std.specs.Prelude.{◌≡◌, Result, Ok, Err}
use Rattle.c_run.specs.Runs.{Run, Live, Ended, NeedsReading, Outcome, Went, Stopped, broken, counted}
use Rattle.c_run.specs.declared.halt.Halt.{Halt}
use Rattle.c_run.specs.declared.halt.Halt.TheVariants as halt

-- how a run stopped, with where it is then; the mark that was asked for is not counted yet
abbrev pub Halts : {A : Type 0} → Outcome A → Halt → Run → Type 0
Halts o halt.Live r = o ≡ Stopped (Live (counted r.state) r.used)
Halts o (halt.Ended kind) r = o ≡ Stopped (Ended kind r.state r.used)
Halts o halt.NeedsReading r = o ≡ Stopped NeedsReading
Halts o (halt.Broken rule node) r = o ≡ Stopped (broken rule node)
Halts o halt.NoMemory r = Unit {0}

abbrev pub Gives : {A : Type 0} → Outcome A → Result A Halt → Run → Type 0
Gives o (Ok a) r = o ≡ Went a r
Gives o (Err h) r = Halts o h r
