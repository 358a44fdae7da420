-- What holds of the runs of every form: statements, which the laws of the crate show.
use Rattle.std.specs.Prelude.{◌≡◌, ℕ, suc, List, []}
use Rattle.base16.specs.declared.reading.Reading.{Reading}
use Rattle.c_run.specs.Runs.{Run, Stop, Went}
use Rattle.ir.specs.declared.form.Ir.{Ir}
use Rattle.ir.specs.Machine.{Calling, start_run, stop_at}
use Rattle.ir.specs.Ends.{IsFine, Ends}
use Rattle.ir.specs.Between.{MakesOnce}

-- where jumps go ahead or to a turn, a run that ends without breaking a rule ends within the bound on its steps
abbrev pub EndsWithinTheBound : Ir → List Reading → ℕ → Type 0
EndsWithinTheBound ir rs n = (s : Stop)
    → Ends ir rs (Went (Calling ir.main 0 [] []) (start_run ir n)) s → stop_at ir rs (suc n) ≡ s

-- a run that ends within the bound without breaking a rule ends so without a bound
abbrev pub EndsWithoutBound : Ir → List Reading → ℕ → Type 0
EndsWithoutBound ir rs n = IsFine (stop_at ir rs (suc n))
    → Ends ir rs (Went (Calling ir.main 0 [] []) (start_run ir n)) (stop_at ir rs (suc n))

-- no step is made twice between two marks
abbrev pub MakesStepsOnce : Ir → List Reading → Type 0
MakesStepsOnce ir rs = (r : Run) → MakesOnce ir rs (Calling ir.main 0 [] []) r
