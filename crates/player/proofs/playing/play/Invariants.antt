use Rattle.player.specs.Playing.{origin}
use Rattle.player.proofs.playing.play.Given as goal

abbrev pub ghost-cycles : goal.ghost-cycles
ghost-cycles g a = origin a.fram.now (g.W.World.state a.world.now) a.records.now.items a.symbols.now.scalars
