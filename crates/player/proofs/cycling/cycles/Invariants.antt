use Rattle.std.proofs.Common.{◌≡◌, []}
use Rattle.player.specs.Form.{cycles_in}
use Rattle.player.specs.Playing.{now}
use Rattle.player.specs.Turning.{IsIdle, RestsBetween}
use Rattle.player.proofs.cycling.cycles.Given as goal

abbrev pub ghost-cycle : goal.ghost-cycle
ghost-cycle g a = g.origin

abbrev pub invariant-powered : goal.invariant-powered
invariant-powered g l = record {
  rests : RestsBetween g.origin l.instrs (now l.records.items l.fram (g.W.World.state l.world));
  idle : IsIdle g.origin l.records.items (g.W.World.state l.world);
  number : l.number ≡ cycles_in l.records.items;
  empty : l.room.items ≡ [];
}

abbrev pub decreases-powered : goal.decreases-powered
decreases-powered g l = (g.W.World.state l.world).cycles
