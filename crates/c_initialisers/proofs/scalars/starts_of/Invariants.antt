use Rattle.std.proofs.Common.{◌≡◌, ◌++◌, length, drop}
use Rattle.c_initialisers.specs.Scalars.{before, starts, starts_from, member_leaves}
use Rattle.c_initialisers.proofs.scalars.starts_of.Given as goal

abbrev pub invariant-loop-member : goal.invariant-loop-member
invariant-loop-member l =
    starts l._structs (length l.known) l.members
    ≡ l.made ++ starts_from l.sum (member_leaves (before l._structs (length l.known)) (drop l.member-index l.members))
