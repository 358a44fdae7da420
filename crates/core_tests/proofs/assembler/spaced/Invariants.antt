use Rattle.std.proofs.Common.{◌≡◌, ◌+◌, length, IsTrue}
use Rattle.asm430.specs.Assembly.{are_formed}
use Rattle.core_tests.proofs.assembler.spaced.Given as goal

abbrev pub invariant-loop-i : goal.invariant-loop-i
invariant-loop-i l = record {
  formed : IsTrue (are_formed l.items.items);
  counted : length l.items.items ≡ l._i + 1;
}
