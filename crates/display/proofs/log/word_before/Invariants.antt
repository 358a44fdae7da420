use Rattle.std.proofs.Common.{◌≢◌, ℕ, ◌<◌}
use Rattle.base16.specs.Memory.{words_of}
use Rattle.board_map.specs.Map.{undo_address}
use Rattle.display.proofs.log.word_before.Given as goal

abbrev pub invariant-loop-index : goal.invariant-loop-index
invariant-loop-index l = (k : ℕ) → k < l.index → words_of l.fram.words (undo_address k) ≢ l.address
