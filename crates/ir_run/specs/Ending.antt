-- What is shown of a run that halted in a state.
use Rattle.std.specs.Prelude.{◌≡◌}
use Rattle.c_values.specs.declared.state.State.{State}
use Rattle.c_run.specs.declared.halt.Halt.{Halt}
use Rattle.c_run.specs.declared.halt.Halt.TheVariants as halt
use Rattle.c_run.specs.Runs.{counted}
use Rattle.ir.specs.declared.form.IrState.{IrState}
use Rattle.ir.specs.declared.form.IrState.TheVariants as state

-- the mark that was asked for is counted
abbrev pub IsShown : Halt → State → IrState → Type 0
IsShown halt.Live s c = c ≡ state.Live (counted s)
IsShown (halt.Ended kind) s c = c ≡ state.Ended kind s
IsShown halt.NeedsReading s c = c ≡ state.NeedsReading
IsShown (halt.Broken rule node) s c = c ≡ state.Stuck
IsShown halt.NoMemory s c = ⊥
