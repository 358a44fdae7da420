use Rattle.std.proofs.Common.{◌≡◌, ◌++◌, drop, map}
use Rattle.ir.specs.declared.form.IrLocal.{IrLocal}
use Rattle.ir.specs.Machine as spec
use Rattle.ir_run.proofs.calls.objects_of.Given as goal

abbrev pub invariant-loop-local : goal.invariant-loop-local
invariant-loop-local l =
    spec.objects_of l.function ≡ l.objects ++ map (λ (x : IrLocal). x.scalars) (drop l.local-index l.function.locals)
