use Rattle.std.proofs.Common.{◌≡◌, drop}
use Rattle.c_externals.specs.Drafting.{members_sized}
use Rattle.c_externals.proofs.structs.are_sized.Given as goal

abbrev pub invariant-loop-member : goal.invariant-loop-member
invariant-loop-member l = members_sized l.env l.members ≡ members_sized l.env (drop l.member-index l.members)
