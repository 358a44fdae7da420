use Rattle.std.proofs.Common.{◌≡◌}
use Rattle.base16.specs.Memory.{words_of}
use Rattle.boot.specs.Restoring.{Copies}
use Rattle.world.specs.World.{Spends}
use Rattle.boot.proofs.booting.copy_segment.Given as goal

abbrev pub invariant-loop-index : goal.invariant-loop-index
invariant-loop-index g l = record {
  copied : Copies l.index (words_of l.fn.fram.words) (words_of l.fram.words);
  ticks : Spends l.index (g.W.World.state l.fn.world) (g.W.World.state l.world);
  poked : l.fram.poked ≡ l.fn.fram.poked;
}
