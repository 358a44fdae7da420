use Rattle.std.proofs.Common.{◌≡◌, drop}
use Rattle.c_checking.specs.Initialisers.{is_constant}
use Rattle.c_initialisers.specs.Lists.{all_given, first_bad}
use Rattle.c_initialisers.proofs.lists.first_changing.Given as goal

abbrev pub invariant-loop-put : goal.invariant-loop-put
invariant-loop-put l =
    first_bad (is_constant l.structs) (all_given l.puts)
    ≡ first_bad (is_constant l.structs) (all_given (drop l.put-index l.puts))
