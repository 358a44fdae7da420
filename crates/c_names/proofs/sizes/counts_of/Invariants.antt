use Rattle.std.proofs.Common.{◌≡◌, map, take}
use Rattle.c_typing.specs.TypeNames as spec
use Rattle.c_names.proofs.sizes.counts_of.Given as goal

abbrev pub invariant-loop-size : goal.invariant-loop-size
invariant-loop-size l = l.counts ≡ map spec.count_of (take l.size-index l.sizes)
