-- What is ensured of a kind of step is ensured of a step of that kind.
use Rattle.std.proofs.Common.{◌≡◌, ℕ, List, Result, subst, sym}
use Rattle.base16.specs.declared.reading.Reading.{Reading}
use Rattle.c_run.specs.declared.halt.Halt.{Halt}
use Rattle.c_run.specs.Runs.{Run}
use Rattle.ir.specs.declared.form.Ir.{Ir}
use Rattle.ir.specs.declared.form.StepKind.{StepKind}
use Rattle.ir.specs.declared.control.Temporary.{Temporary}
use Rattle.ir_steps.specs.Doing as d
use Rattle.ir_steps.specs.Giving.{Moves}

pub at_kind : (ir : Ir) (rs : List Reading) (node p first : ℕ) (k j : StepKind) (ts us : List Temporary) (r q : Run)
    (result : Result ℕ Halt) → k ≡ j → Moves (d.does ir rs node j p first ts r) result us q
    → Moves (d.does ir rs node k p first ts r) result us q
at_kind ir rs node p first k j ts us r q result e h =
    subst (λ (s : StepKind). Moves (d.does ir rs node s p first ts r) result us q) (sym e) h
