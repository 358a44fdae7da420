-- none of the items so far calls it
use Rattle.std.proofs.Common.{◌≡◌, drop}
use Rattle.codegen.specs.Program.{has_call}
use Rattle.codegen.proofs.items.has_call.Given as goal

abbrev pub invariant-loop-item : goal.invariant-loop-item
invariant-loop-item l = has_call l.label l.items ≡ has_call l.label (drop l.item-index l.items)
