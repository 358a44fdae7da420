use Rattle.std.proofs.Common.{◌≡◌, ◌++◌, ◌+◌, ◌*◌, drop}
use Rattle.asm430.specs.Listing.{data_lines}
use Rattle.asm430.proofs.printed.push_data.Given as goal

abbrev pub invariant-loop-word : goal.invariant-loop-word
invariant-loop-word l = record {
  same : l.text.items ++ data_lines l.address (drop l.word-index l.words) ≡ l.fn.text.items ++ data_lines l.fn.address l.words;
  here : l.address ≡ l.fn.address + 2 * l.word-index;
}
