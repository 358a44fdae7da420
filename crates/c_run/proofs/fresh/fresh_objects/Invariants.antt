use Rattle.std.proofs.Common.{◌≡◌, ◌++◌, ◌+◌, drop}
use Rattle.c_run.specs.Making.{fresh_objects}
use Rattle.c_run.proofs.fresh.fresh_objects.Given as goal

abbrev pub invariant-loop-slots : goal.invariant-loop-slots
invariant-loop-slots l = record {
  made : fresh_objects l.number l.all ≡ l.objects ++ fresh_objects l.next (drop l.slots-index l.all);
  count : l.next ≡ l.number + l.slots-index;
}
