use Rattle.std.proofs.Common.{◌≡◌, ◌++◌, true, length, drop}
use Rattle.c_checking.specs.Initialisers.{stores}
use Rattle.c_initialisers.specs.Lists.{all_given}
use Rattle.c_initialisers.proofs.storing.stores.Given as goal

abbrev pub invariant-loop-at : goal.invariant-loop-at
invariant-loop-at l =
    (stores true l.slots (all_given l.fn.puts) ≡ l.made ++ stores true (drop l.at l.slots) (all_given (drop l.at l.rest)))
    × (length l.rest ≡ length l.initial.rest)
