-- those so far that are called
use Rattle.std.proofs.Common.{◌≡◌, take}
use Rattle.codegen.specs.Program.{called_of}
use Rattle.codegen.proofs.items.called_of.Given as goal

abbrev pub invariant-loop-which : goal.invariant-loop-which
invariant-loop-which l = l.called.items ≡ called_of l.items (take l.which-index l.all)
