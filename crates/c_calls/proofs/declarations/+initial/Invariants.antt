use Rattle.std.proofs.Common.{◌≡◌, drop, map}
use Rattle.c_checking.specs.Calls as spec
use Rattle.c_calls.proofs.declarations.+initial.Given as goal

abbrev pub invariant-in_initials-loop-initial : goal.invariant-in_initials-loop-initial
invariant-in_initials-loop-initial l = spec.first_of (map (spec.in_initial l.names) l.all) ≡ spec.first_of (map (spec.in_initial l.names) (drop l.initial-index l.all))
