-- the first fault of all is the first of those that are left
use Rattle.std.proofs.Common.{◌≡◌, ◌*◌, ◌≤◌, drop, IsTrue}
use Rattle.asm430.specs.Assembly.{far_in, first, are_formed}
use Rattle.asm430.proofs.faults.first_far.Given as goal

abbrev pub invariant-loop-item : goal.invariant-loop-item
invariant-loop-item l = record {
  same : first (far_in l.items l.number l.place (drop l.item-index l.items)) ≡ first (far_in l.items 0 0 l.items);
  formed : IsTrue (are_formed (drop l.item-index l.items));
  counted : l.number ≡ l.item-index;
  small : l.place ≤ 3 * l.item-index;
}
