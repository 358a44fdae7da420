use Rattle.std.proofs.Common.{◌≡◌, ◌++◌, drop}
use Rattle.c_meaning.specs.After as whole
use Rattle.c_start.proofs.starting.initial_objects.Given as goal

abbrev pub invariant-loop-global : goal.invariant-loop-global
invariant-loop-global l = (l.number ≡ l.global-index)
    × (whole.initial_objects l.structs 0 l.globals
    ≡ l.objects ++ whole.initial_objects l.structs l.number (drop l.number l.globals))
