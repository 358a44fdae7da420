-- the first fault of all is the first of those that are left
use Rattle.std.proofs.Common.{◌≡◌, drop}
use Rattle.asm430.specs.Assembly.{unbound_in, first}
use Rattle.asm430.proofs.faults.first_unbound.Given as goal

abbrev pub invariant-loop-item : goal.invariant-loop-item
invariant-loop-item l = first (unbound_in l.items (drop l.item-index l.items)) ≡ first (unbound_in l.items l.items)
