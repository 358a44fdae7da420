use Rattle.std.proofs.Common.{◌≡◌, ◌+◌, ◌≤◌, ◌++◌, vec_len, vec_capacity}
use Rattle.base16.specs.Memory.{words_of}
use Rattle.display.specs.Display.{display_of}
use Rattle.display.specs.Log.{shown_before}
use Rattle.display.specs.Sets.{length_change, out_change, all_below}
use Rattle.display.proofs.sets.push_outputs.Given as goal

abbrev pub invariant-loop-index : goal.invariant-loop-index
invariant-loop-index l = record {
  items : l.sets.items ≡ l.fn.sets.items
      ++ (length_change (shown_before l.scalars l.log (words_of l.fram.words)) (display_of l.scalars (words_of l.fram.words))
      ++ all_below (out_change (shown_before l.scalars l.log (words_of l.fram.words))
      (display_of l.scalars (words_of l.fram.words))) l.index);
  room : vec_len l.sets ≤ vec_len l.fn.sets + 1 + l.index;
  capacity : vec_capacity l.fn.sets ≤ vec_capacity l.sets;
}
