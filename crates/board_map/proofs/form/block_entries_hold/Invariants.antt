use Rattle.std.proofs.Common.{ℕ, ◌<◌}
use Rattle.board_map.specs.Map.{block_address, IsLoggable}
use Rattle.board_map.proofs.form.block_entries_hold.Given as goal

abbrev pub invariant-loop-index : goal.invariant-loop-index
invariant-loop-index g l = (k : ℕ) → k < l.index → IsLoggable (g.M.Words.words l.words (block_address k))
