-- What the functions of a step ensure: what the actions answer, unless memory runs out.
use Rattle.std.specs.Prelude.{◌≡◌, ℕ, List, Result, Ok, Err}
use Rattle.c_run.specs.declared.halt.Halt.{Halt}
use Rattle.c_run.specs.Runs.{Run, Outcome, Went}
use Rattle.c_run.specs.Gives.{Halts}
use Rattle.ir.specs.declared.control.Temporary.{Temporary}
use Rattle.ir_steps.specs.Doing.{Taken, Moved}

-- something is taken of the temporaries, and these are left
abbrev pub Takes : {A : Type 0} → Outcome (Taken A) → Result A Halt → List Temporary → Run → Type 0
Takes o (Ok a) ts r = o ≡ Went (record { value = a; rest = ts }) r
Takes o (Err h) ts r = Halts o h r

-- a step leads to a place, with these temporaries
abbrev pub Moves : Outcome Moved → Result ℕ Halt → List Temporary → Run → Type 0
Moves o (Ok to) ts r = o ≡ Went (record { to = to; temporaries = ts }) r
Moves o (Err h) ts r = Halts o h r
