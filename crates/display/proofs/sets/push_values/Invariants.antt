use Rattle.std.proofs.Common.{◌≡◌, ◌+◌, ◌-◌, ◌*◌, ◌%◌, ◌≤◌, ◌++◌, vec_len, vec_capacity}
use Rattle.base16.specs.Board.{data_end}
use Rattle.base16.specs.Memory.{words_of}
use Rattle.display.specs.Display.{display_of}
use Rattle.display.specs.Log.{shown_before, entries_from}
use Rattle.display.specs.Sets.{value_set, all_below}
use Rattle.display.proofs.sets.push_values.Given as goal

abbrev pub invariant-walk : goal.invariant-walk
invariant-walk l = record {
  items : l.sets.items ≡ l.fn.sets.items ++ all_below (value_set l.scalars
      (shown_before l.scalars l.log (words_of l.fram.words)) (display_of l.scalars (words_of l.fram.words))) l.done;
  even : l.done % 2 ≡ 0;
  bound : l.done ≤ data_end;
  room : vec_len l.sets + 2 * entries_from l.log (words_of l.fram.words) l.done ≤ vec_len l.fn.sets + 2 * l.log;
  capacity : vec_capacity l.fn.sets ≤ vec_capacity l.sets;
}

abbrev pub decreases-walk : goal.decreases-walk
decreases-walk l = data_end - l.done
