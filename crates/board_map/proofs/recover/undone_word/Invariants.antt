use Rattle.std.proofs.Common.{◌≢◌, ℕ, ◌<◌}
use Rattle.board_map.specs.Map.{undo_address}
use Rattle.board_map.proofs.recover.undone_word.Given as goal

abbrev pub invariant-loop-index : goal.invariant-loop-index
invariant-loop-index g l = (k : ℕ) → k < l.index → l.address ≢ g.M.Words.words l.words (undo_address k)
