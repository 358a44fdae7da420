use Rattle.std.proofs.Common.{◌≡◌, drop}
use Rattle.c_typing.specs.TypeNames as spec
use Rattle.c_names.proofs.typenames.has_const.Given as goal

abbrev pub invariant-loop-qual : goal.invariant-loop-qual
invariant-loop-qual l = spec.has_const l.quals ≡ spec.has_const (drop l.qual-index l.quals)
