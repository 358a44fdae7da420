use Rattle.std.proofs.Common.{◌≡◌, take}
use Rattle.c_run.proofs.fresh.copy_objects.Given as goal

abbrev pub invariant-loop-object : goal.invariant-loop-object
invariant-loop-object l = l.made ≡ take l.object-index l.objects
