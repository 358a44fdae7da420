use Rattle.std.proofs.Common.{◌≡◌, ℕ, ◌+◌, ◌≤◌}
use Rattle.base16.specs.Memory.{words_of}
use Rattle.board_map.specs.Map.{count_of}
use Rattle.undo_log.proofs.RollLemmas.{Back}
use Rattle.world.specs.World.{Spends}
use Rattle.undo_log.proofs.rolling.rollback.Given as goal

abbrev pub invariant-loop-left : goal.invariant-loop-left
invariant-loop-left g l = record {
  back : Back (words_of l.fn.fram.words) l.left (words_of l.fram.words);
  within : l.left ≤ l.entries;
  entries : l.entries ≡ count_of (words_of l.fn.fram.words);
  ticks : (n : ℕ) → n + l.left ≡ l.entries → Spends n (g.W.World.state l.fn.world) (g.W.World.state l.world);
  poked : l.fram.poked ≡ l.fn.fram.poked;
}

abbrev pub decreases-loop-left : goal.decreases-loop-left
decreases-loop-left g l = l.left
