-- A boot, and then turn by turn.
use Rattle.std.proofs.Common.{◌∙◌, subst}
use Rattle.player.specs.Playing.{now}
use Rattle.player.specs.Turning.{Turned}
use Rattle.player.proofs.Boots.{boot-goes, boot-cut}
use Rattle.player.proofs.cycling.cycle.Goals as goal

pub returns-in_default-clause-after : goal.returns-in_default-clause-after
returns-in_default-clause-after g c =
    boot-cut g.origin c.args.instrs.now c.args.records.now.items c.args.fram.now c.boot.new.fram
    (g.W.World.state c.args.world.now) (g.W.World.state c.boot.new.world) c.requires.1.0
    (record { well_formed = c.boot.ensures.well_formed; recovered = c.boot.ensures.recovered; poked = c.boot.ensures.poked })
    c.in_default.ensures.entries c.in_default.ensures.ticks.0 c.in_default.ensures.ticks.1 c.in_default.ensures.ticks.2

pub turns-init : goal.turns-init
turns-init g c = record {
  goes = boot-goes g.origin c.args.instrs.now c.args.records.now.items c.args.fram.now c.boot.new.fram
      (g.W.World.state c.args.world.now) (g.W.World.state c.boot.new.world) c.in-Ok.regs.r c.in-Ok.work c.requires.1.0
      (record { well_formed = c.boot.ensures.well_formed; recovered = c.boot.ensures.recovered; poked = c.boot.ensures.poked })
      c.in-Ok.ensures.ticks c.in-Ok.ensures.no_entries c.in-Ok.ensures.since c.count.ensures.all c.in-Ok.ensures.registers
      c.in-Ok.ensures.work c.in-Ok.ensures.memory;
  records_room = c.requires.1.1.0;
  cycles = c.in-Ok.ensures.ticks.cycles;
  empty = c.requires.1.1.1.1.1.1.1;
}

pub turns-preserved : goal.turns-preserved
turns-preserved g c = record {
  goes = subst (λ t. Turned t g.origin c.take_turn.new.instrs c.take_turn.new.here c.take_turn.new.regs.r c.take_turn.new.work
      (now c.take_turn.new.records.items c.take_turn.new.fram (g.W.World.state c.take_turn.new.world))) c.in-Goes.is
      c.in_ok-take_turn.ensures.after;
  records_room = c.take_turn.ensures.room;
  cycles = c.take_turn.ensures.cycles ∙ c.turns.invariant.cycles;
  empty = c.take_turn.ensures.empty;
}
