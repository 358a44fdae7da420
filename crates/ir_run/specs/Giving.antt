-- What the functions of the run of a form ensure: what the actions answer, unless memory runs out.
use Rattle.std.specs.Prelude.{◌≡◌, [], Option, Some, None, Result, Ok, Err}
use Rattle.c_run.specs.declared.halt.Halt.{Halt}
use Rattle.c_run.specs.Runs.{Run, Outcome, Went}
use Rattle.c_run.specs.Actions.{finish}
use Rattle.c_run.specs.Gives.{Halts}
use Rattle.ir.specs.declared.control.Control.{Control}
use Rattle.ir.specs.declared.control.Control.TheVariants.{Returning}

-- a run that has left its outermost call is at its end
abbrev pub reached : Control → Run → Outcome Control
reached (Returning v []) r = finish r
reached c r = Went c r

-- a step leads so; where the outermost call is left, the end is still to be made
abbrev pub Steps : Outcome Control → Result Control Halt → Run → Type 0
Steps o (Ok c) r = o ≡ reached c r
Steps o (Err h) r = Halts o h r

-- a run stops so; where there is no halt, its end is still to be made
abbrev pub Stops : Outcome Control → Option Halt → Run → Type 0
Stops o (Some h) r = Halts o h r
Stops o None r = o ≡ finish r
