-- the table of the items so far
use Rattle.std.proofs.Common.{◌≡◌, ◌*◌, ◌≤◌, take, drop, IsTrue}
use Rattle.asm430.specs.Assembly.{are_formed, words_in}
use Rattle.asm430.specs.LabelTable.{HasLabels}
use Rattle.asm430.proofs.places.label_table.Given as goal

abbrev pub invariant-loop-item : goal.invariant-loop-item
invariant-loop-item l = record {
  labels : HasLabels (take l.item-index l.items) l.table;
  formed : IsTrue (are_formed (drop l.item-index l.items));
  here : l.place ≡ words_in (take l.item-index l.items);
  small : l.place ≤ 3 * l.item-index;
}
