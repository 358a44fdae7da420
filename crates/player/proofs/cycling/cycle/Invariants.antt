use Rattle.std.proofs.Common.{◌≡◌, ◌<◌, [], vec_len}
use Rattle.std.specs.Vec.{vec_capacity}
use Rattle.player.specs.Playing.{now}
use Rattle.player.specs.Turning.{Goes}
use Rattle.player.proofs.cycling.cycle.Given as goal

abbrev pub ghost-take_turn : goal.ghost-take_turn
ghost-take_turn g a = g.origin

abbrev pub invariant-turns : goal.invariant-turns
invariant-turns g l = record {
  goes : Goes g.origin l.instrs l.here l.regs.r l.work (now l.records.items l.fram (g.W.World.state l.world));
  records_room : vec_len l.records < vec_capacity l.records;
  cycles : (g.W.World.state l.world).cycles ≡ (g.W.World.state l.fn.world).cycles;
  empty : l.room.items ≡ [];
}

abbrev pub decreases-turns : goal.decreases-turns
decreases-turns g l = (g.W.World.state l.world).left
