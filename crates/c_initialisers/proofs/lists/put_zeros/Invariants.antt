use Rattle.std.proofs.Common.{◌≡◌, ◌++◌, None}
use Rattle.std.specs.Prelude.{replicate}
use Rattle.c_initialisers.specs.Lists.{all_given}
use Rattle.c_initialisers.proofs.lists.put_zeros.Given as goal

abbrev pub invariant-loop-scalar : goal.invariant-loop-scalar
invariant-loop-scalar l = all_given l.into ≡ all_given l.fn.into ++ replicate l._scalar None
