use Rattle.std.proofs.Common.{◌≡◌, drop}
use Rattle.c_typing.specs.Scopes as spec
use Rattle.c_conversions.proofs.scopes.member_in.Given as goal

abbrev pub invariant-loop-i : goal.invariant-loop-i
invariant-loop-i l = spec.member_from 0 l.name l.members ≡ spec.member_from l.i l.name (drop l.i l.members)
