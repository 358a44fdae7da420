-- the items so far are added
use Rattle.std.proofs.Common.{take}
use Rattle.codegen.specs.Placing.{Adds}
use Rattle.codegen.proofs.adding.add_all.Given as goal

abbrev pub invariant-loop-item : goal.invariant-loop-item
invariant-loop-item l = Adds l.initial.made l.made (take l.item-index l.items)
