use Rattle.std.proofs.Common.{◌≡◌, ◌++◌, drop}
use Rattle.c_externals.proofs.Turns.{names}
use Rattle.c_externals.proofs.names.names_of.Given as goal

abbrev pub invariant-loop-member : goal.invariant-loop-member
invariant-loop-member l = names l.members ≡ l.names ++ names (drop l.member-index l.members)
