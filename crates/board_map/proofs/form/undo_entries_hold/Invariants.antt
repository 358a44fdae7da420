use Rattle.std.proofs.Common.{ℕ, ◌<◌}
use Rattle.board_map.specs.Map.{undo_address, IsLoggable, IsOutside}
use Rattle.board_map.proofs.form.undo_entries_hold.Given as goal

abbrev pub invariant-loop-index : goal.invariant-loop-index
invariant-loop-index g l = (k : ℕ) → k < l.index → IsLoggable (g.M.Words.words l.words (undo_address k)) × IsOutside l.segment
    (g.M.Words.words l.words (undo_address k))
