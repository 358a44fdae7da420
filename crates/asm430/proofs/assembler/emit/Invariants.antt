-- the words so far and those of the items that are left are all the words
use Rattle.std.proofs.Common.{◌≡◌, ◌+◌, ◌++◌, drop, IsTrue}
use Rattle.asm430.specs.Assembly.{are_formed, words_in}
use Rattle.asm430.specs.Emission.{are_ready, words_from}
use Rattle.asm430.proofs.assembler.emit.Given as goal

abbrev pub invariant-loop-item : goal.invariant-loop-item
invariant-loop-item l = record {
  same : l.words.items ++ words_from l.items l.place (drop l.item-index l.items) ≡ words_from l.items 0 l.items;
  formed : IsTrue (are_formed (drop l.item-index l.items));
  ready : IsTrue (are_ready l.items l.place (drop l.item-index l.items));
  within : l.place + words_in (drop l.item-index l.items) ≡ words_in l.items;
}
