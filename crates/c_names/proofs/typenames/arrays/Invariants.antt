use Rattle.std.proofs.Common.{◌≡◌, length}
use Rattle.c_typing.specs.TypeNames as spec
use Rattle.c_names.proofs.typenames.arrays.Given as goal

abbrev pub invariant-loop-count : goal.invariant-loop-count
invariant-loop-count l = spec.arrays l.fn.ty l.fn.counts ≡ spec.arrays l.made l.counts

abbrev pub decreases-loop-count : goal.decreases-loop-count
decreases-loop-count l = length l.counts
