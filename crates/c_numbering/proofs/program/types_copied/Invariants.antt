use Rattle.std.proofs.Common.{◌≡◌, take}
use Rattle.c_numbering.proofs.program.types_copied.Given as goal

abbrev pub invariant-loop-ty : goal.invariant-loop-ty
invariant-loop-ty l = l.made ≡ take l.ty-index l.types
