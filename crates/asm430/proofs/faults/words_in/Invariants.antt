use Rattle.std.proofs.Common.{◌≡◌, ◌+◌, ◌*◌, ◌≤◌, drop, IsTrue}
use Rattle.asm430.specs.Assembly.{are_formed, words_in}
use Rattle.asm430.proofs.faults.words_in.Given as goal

abbrev pub invariant-loop-item : goal.invariant-loop-item
invariant-loop-item l = record {
  formed : IsTrue (are_formed (drop l.item-index l.items));
  before : l.words + words_in (drop l.item-index l.items) ≡ words_in l.items;
  small : l.words ≤ 3 * l.item-index;
}
