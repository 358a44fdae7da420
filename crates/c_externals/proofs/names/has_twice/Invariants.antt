use Rattle.std.proofs.Common.{◌≡◌, drop}
use Rattle.c_checking.specs.Externals as spec
use Rattle.c_externals.proofs.names.has_twice.Given as goal

abbrev pub invariant-loop-i : goal.invariant-loop-i
invariant-loop-i l = spec.has_twice l.names ≡ spec.has_twice (drop l.i l.names)
