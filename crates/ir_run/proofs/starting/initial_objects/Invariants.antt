use Rattle.std.proofs.Common.{◌≡◌, ◌++◌, drop}
use Rattle.ir.specs.Machine as spec
use Rattle.ir_run.proofs.starting.initial_objects.Given as goal

abbrev pub invariant-loop-global : goal.invariant-loop-global
invariant-loop-global l = (l.number ≡ l.global-index)
    × (spec.initial_objects 0 l.globals ≡ l.objects ++ spec.initial_objects l.number (drop l.number l.globals))
