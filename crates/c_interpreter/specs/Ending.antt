-- The body of `main` with how it stopped, and what is shown of that.
use Rattle.std.specs.Prelude.{◌≡◌, ℕ, zero, suc, List, []}
use Rattle.base16.specs.declared.reading.Reading.{Reading}
use Rattle.core_tree.specs.declared.program.Core.{Core}
use Rattle.core_tree.specs.declared.program.Function.{Function}
use Rattle.core_tree.specs.Heights.{frame_bytes}
use Rattle.c_values.specs.declared.state.State.{State}
use Rattle.c_run.specs.declared.halt.Halt.{Halt}
use Rattle.c_run.specs.declared.halt.Halt.TheVariants as halt
use Rattle.c_run.specs.Runs.{Action, ◌>>=◌}
use Rattle.c_run.specs.Actions.{enter}
use Rattle.c_meaning.specs.declared.flow.Flow.{Flow}
use Rattle.c_meaning.specs.declared.outcome.CState.{CState}
use Rattle.c_meaning.specs.declared.outcome.CState.TheVariants as state
use Rattle.c_meaning.specs.After.{objects_of, body, calls}

-- the call of main up to the end of its body
abbrev pub main_body : Core → List Reading → ℕ → Function → Action Flow
main_body core readings n f =
    enter n (frame_bytes core.structs f) (objects_of core.structs f)
    >>= λ first. λ r. body core readings (calls core readings (suc r.left)) f [] first r

-- what is shown of a run that halted in a state, where a number of marks was asked for
abbrev pub IsShown : Halt → State → ℕ → CState → Type 0
IsShown halt.Live s marks c = c ≡ state.Live (record s { marks = marks })
IsShown (halt.Ended kind) s marks c = c ≡ state.Ended kind s
IsShown halt.NeedsReading s marks c = c ≡ state.NeedsReading
IsShown (halt.Broken zero node) s marks c = c ≡ state.Undefined 0 0
IsShown (halt.Broken (suc rule) node) s marks c = c ≡ state.Undefined (suc rule) node
IsShown halt.NoMemory s marks c = ⊥
