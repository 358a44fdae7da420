use Rattle.std.proofs.Common.{◌≡◌, drop}
use Rattle.c_checking.specs.Externals as spec
use Rattle.c_calls.proofs.names.is_one_of.Given as goal

abbrev pub invariant-loop-other : goal.invariant-loop-other
invariant-loop-other l = spec.is_one_of l.names l.name ≡ spec.is_one_of (drop l.other-index l.names) l.name
