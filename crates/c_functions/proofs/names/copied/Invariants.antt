use Rattle.std.proofs.Common.{◌≡◌, ◌++◌, drop}
use Rattle.c_functions.proofs.names.copied.Given as goal

abbrev pub invariant-loop-ty : goal.invariant-loop-ty
invariant-loop-ty l = l.types ≡ l.made ++ drop l.ty-index l.types
