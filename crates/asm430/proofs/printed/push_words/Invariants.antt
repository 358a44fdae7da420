use Rattle.std.proofs.Common.{◌≡◌, ◌++◌, drop}
use Rattle.asm430.specs.Listing.{spaced_words}
use Rattle.asm430.proofs.printed.push_words.Given as goal

abbrev pub invariant-loop-word : goal.invariant-loop-word
invariant-loop-word l = l.text.items ++ spaced_words (drop l.word-index l.words) ≡ l.fn.text.items ++ spaced_words l.words
