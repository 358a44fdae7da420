use Rattle.std.proofs.Common.{◌≡◌, drop}
use Rattle.c_typing.specs.Scopes as spec
use Rattle.c_externals.proofs.names.is_tag.Given as goal

abbrev pub invariant-loop-i : goal.invariant-loop-i
invariant-loop-i l = spec.tag_from 0 l.tag l.structs ≡ spec.tag_from l.i l.tag (drop l.i l.structs)
