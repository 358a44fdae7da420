use Rattle.std.proofs.Common.{◌≡◌, ◌++◌, drop}
use Rattle.c_checking.specs.Initialisers.{initials}
use Rattle.c_initialisers.specs.Lists.{all_given}
use Rattle.c_initialisers.proofs.storing.initials.Given as goal

abbrev pub invariant-loop-at : goal.invariant-loop-at
invariant-loop-at l =
    initials l.structs l.slots (all_given l.puts)
    ≡ l.made ++ initials l.structs (drop l.at l.slots) (drop l.at (all_given l.puts))
