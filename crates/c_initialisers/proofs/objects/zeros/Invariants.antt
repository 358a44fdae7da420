use Rattle.std.proofs.Common.{◌≡◌, ◌++◌, [], drop}
use Rattle.c_checking.specs.Initialisers.{initials}
use Rattle.c_initialisers.proofs.objects.zeros.Given as goal

abbrev pub invariant-loop-slot : goal.invariant-loop-slot
invariant-loop-slot l = initials l._structs l.slots [] ≡ l.made ++ initials l._structs (drop l.slot-index l.slots) []
