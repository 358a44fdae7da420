use Rattle.std.proofs.Common.{◌≡◌, drop}
use Rattle.c_typing.specs.TypeNames as spec
use Rattle.c_names.proofs.typenames.pointed.Given as goal

abbrev pub invariant-loop-quals : goal.invariant-loop-quals
invariant-loop-quals l =
    spec.pointed (record { ty = l.fn.ty; readonly = l.fn.readonly }) l.stars
    ≡ spec.pointed (record { ty = l.made; readonly = l.constant }) (drop l.quals-index l.stars)
