use Rattle.std.proofs.Common.{◌≡◌, ◌++◌, map, take, drop}
use Rattle.c_run.specs.Changes.{changed_object}
use Rattle.c_run.proofs.put.change_objects.Given as goal

abbrev pub invariant-loop-i : goal.invariant-loop-i
invariant-loop-i l = l.objects ≡ map (changed_object l.number l.change) (take l.i l.fn.objects) ++ drop l.i l.fn.objects
