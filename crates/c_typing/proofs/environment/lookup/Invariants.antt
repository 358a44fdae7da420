use Rattle.std.proofs.Common.{◌≡◌, take}
use Rattle.std.specs.Option.{option_copied}
use Rattle.c_typing.specs.Scopes as spec
use Rattle.c_typing.proofs.environment.lookup.Given as goal

abbrev pub invariant-loop-named : goal.invariant-loop-named
invariant-loop-named l = option_copied l.found ≡ spec.lookup (take l.named-index l.names) l.name
