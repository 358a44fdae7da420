-- A service was served; its reading and its commit were recorded.
use Rattle.std.proofs.Common.{ap, refl, subst, sym, None, append-nil}
use Rattle.base16.specs.Memory.{words_of}
use Rattle.services.specs.Serving.{OnPower, committed_in}
use Rattle.player.specs.Turning.{turn_of}
use Rattle.player.proofs.Calls.{given-one, recorded}
use Rattle.player.proofs.Served.{log-fits}
use Rattle.player.proofs.turning.called.Goals as goal

pub record_reading-requires-clause-given : goal.record_reading-requires-clause-given
record_reading-requires-clause-given g c =
    given-one c.args.n c.args.regs.now.r c.serve-served.new.regs.r (words_of c.args.fram.now.words)
    (words_of c.serve-served.new.fram.words) c.args.work.now c.serve-served.new.work (g.W.World.state c.args.world.now)
    (g.W.World.state c.serve-served.new.world) c.serve-served.result c.given-before.result c.serve-served.ensures.served
    c.given-before.ensures.value

pub returns-in-Off-clause-served : goal.returns-in-Off-clause-served
returns-in-Off-clause-served g c =
    recorded c.args.symbols.now.scalars c.args.n c.args.here c.args.regs.now.r c.serve-served.new.regs.r c.args.work.now
    c.serve-served.new.work
    c.args.records.now.items c.record_reading.new.records.items c.record_reading.new.records.items c.args.fram.now
    c.serve-served.new.fram (g.W.World.state c.args.world.now) (g.W.World.state c.serve-served.new.world) c.args.instrs.now
    c.args.instrs.now c.given-before.result _ c.serve-served.result None c.serve-served.ensures.served (ap turn_of c.in-Off.is)
    (ap committed_in c.in-Off.is) c.given-before.ensures.value c.record_reading.ensures.records
    (sym (append-nil c.record_reading.new.records.items)) refl c.count.ensures.all c.serve-served.ensures.poked

pub returns-in-Done-clause-served : goal.returns-in-Done-clause-served
returns-in-Done-clause-served g c =
    recorded c.args.symbols.now.scalars c.args.n c.args.here c.args.regs.now.r c.serve-served.new.regs.r c.args.work.now
    c.serve-served.new.work
    c.args.records.now.items c.record_reading.new.records.items c.record_commit.new.records.items c.args.fram.now
    c.serve-served.new.fram (g.W.World.state c.args.world.now) (g.W.World.state c.serve-served.new.world) c.args.instrs.now
    c.record_commit.new.instrs c.given-before.result _ c.serve-served.result c.in-Done.committed c.serve-served.ensures.served
    (ap turn_of c.in-Done.is) (ap committed_in c.in-Done.is) c.given-before.ensures.value c.record_reading.ensures.records
    c.record_commit.ensures.records c.record_commit.ensures.instrs c.count.ensures.all c.serve-served.ensures.poked

pub returns-in-End-clause-served : goal.returns-in-End-clause-served
returns-in-End-clause-served g c =
    recorded c.args.symbols.now.scalars c.args.n c.args.here c.args.regs.now.r c.serve-served.new.regs.r c.args.work.now
    c.serve-served.new.work
    c.args.records.now.items c.record_reading.new.records.items c.record_commit-in-End.new.records.items c.args.fram.now
    c.serve-served.new.fram (g.W.World.state c.args.world.now) (g.W.World.state c.serve-served.new.world) c.args.instrs.now
    c.record_commit-in-End.new.instrs c.given-before.result _ c.serve-served.result c.in-End.committed
    c.serve-served.ensures.served (ap turn_of c.in-End.is) (ap committed_in c.in-End.is) c.given-before.ensures.value
    c.record_reading.ensures.records c.record_commit-in-End.ensures.records c.record_commit-in-End.ensures.instrs
    c.count.ensures.all c.serve-served.ensures.poked

pub record_commit-requires-clause-log : goal.record_commit-requires-clause-log
record_commit-requires-clause-log g c =
    log-fits c.args.n c.args.regs.now.r c.serve-served.new.regs.r (words_of c.args.fram.now.words)
    (words_of c.serve-served.new.fram.words) c.args.work.now c.serve-served.new.work (g.W.World.state c.args.world.now)
    (g.W.World.state c.serve-served.new.world) c.serve-served.result c.in-Done.committed c.requires.entries
    c.serve-served.ensures.served (λ P h. subst (λ a. OnPower a P) c.in-Done.is h) (ap committed_in c.in-Done.is)

pub record_commit-requires-in-End-clause-log : goal.record_commit-requires-in-End-clause-log
record_commit-requires-in-End-clause-log g c =
    log-fits c.args.n c.args.regs.now.r c.serve-served.new.regs.r (words_of c.args.fram.now.words)
    (words_of c.serve-served.new.fram.words) c.args.work.now c.serve-served.new.work (g.W.World.state c.args.world.now)
    (g.W.World.state c.serve-served.new.world) c.serve-served.result c.in-End.committed c.requires.entries
    c.serve-served.ensures.served (λ P h. subst (λ a. OnPower a P) c.in-End.is h) (ap committed_in c.in-End.is)
