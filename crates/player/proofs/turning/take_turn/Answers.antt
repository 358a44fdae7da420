-- One instruction, with the service that it calls, leads from where the program goes to where the turn says.
use Rattle.std.proofs.Common.{◌≡◌, ◌+◌, List, false, true, Result, Ok, Err, OnOk, OnErr, is_err, sym, subst}
use Rattle.base16.specs.declared.image.Scalar.{Scalar}
use Rattle.display.specs.Display.{AreInData}
use Rattle.world.specs.World.{Spends}
use Rattle.player.specs.Playing.{now}
use Rattle.player.specs.Turning.{Goes, IsCut, IsServed}
use Rattle.player.proofs.Moves.{next-goes, wild-ends, tick-cut, may-call}
use Rattle.player.proofs.Turns.{served-turned}
use Rattle.player.proofs.turning.take_turn.Goals as goal

ok_of : {T E P : Type 0} (r : Result T E) → OnOk r P → false ≡ is_err r → P
ok_of (Ok x) p e = p
ok_of (Err x) p e = cc

err_of : {T E P : Type 0} (r : Result T E) → OnErr r P → true ≡ is_err r → P
err_of (Ok x) p e = cc
err_of (Err x) p e = p

pub returns-then-is_err-clause-after : goal.returns-then-is_err-clause-after
returns-then-is_err-clause-after g c =
    let w = g.W.World.state c.args.world.now in
    let none : w.left ≡ 0 = err_of c.tick.result c.tick.ensures.off c.if-is_err.ensures.value in
    let same : g.W.World.state c.tick.new.self ≡ w = err_of c.tick.result c.tick.ensures.unchanged c.if-is_err.ensures.value in
    let goes : Goes g.origin c.args.instrs.now c.args.here.now c.args.regs.now.r c.args.work.now
    (now c.reserve.new.self.items c.args.fram.now w) =
    subst (λ x. Goes g.origin c.args.instrs.now c.args.here.now c.args.regs.now.r c.args.work.now (now x c.args.fram.now w))
    (sym c.reserve.ensures.items) c.requires.1.0 in
    subst (λ v. IsCut g.origin c.args.instrs.now (now c.reserve.new.self.items c.args.fram.now v)) (sym same)
    (tick-cut g.origin c.args.instrs.now c.args.here.now c.args.regs.now.r c.args.work.now c.reserve.new.self.items
    c.args.fram.now w goes none)

pub returns-in-Next-clause-after : goal.returns-in-Next-clause-after
returns-in-Next-clause-after g c =
    let w = g.W.World.state c.args.world.now in
    let w2 = g.W.World.state c.tick.new.self in
    let spends : Spends 1 w w2 = ok_of c.tick.result c.tick.ensures.ok c.if-is_err.ensures.value in
    let goes : Goes g.origin c.args.instrs.now c.args.here.now c.args.regs.now.r c.args.work.now
    (now c.reserve.new.self.items c.args.fram.now w) =
    subst (λ x. Goes g.origin c.args.instrs.now c.args.here.now c.args.regs.now.r c.args.work.now (now x c.args.fram.now w))
    (sym c.reserve.ensures.items) c.requires.1.0 in
    next-goes g.origin c.args.instrs.now c.args.here.now c.args.regs.now.r c.instruction.new.regs.r c.args.work.now
    c.reserve.new.self.items c.args.fram.now c.instruction.new.fram w w2 goes c.instruction.ensures.one_put
    c.instruction.ensures.poked spends c.in-Next.ensures.is

pub returns-in-Wild-clause-after : goal.returns-in-Wild-clause-after
returns-in-Wild-clause-after g c =
    let w = g.W.World.state c.args.world.now in
    let w2 = g.W.World.state c.tick.new.self in
    let spends : Spends 1 w w2 = ok_of c.tick.result c.tick.ensures.ok c.if-is_err.ensures.value in
    let goes : Goes g.origin c.args.instrs.now c.args.here.now c.args.regs.now.r c.args.work.now
    (now c.reserve.new.self.items c.args.fram.now w) =
    subst (λ x. Goes g.origin c.args.instrs.now c.args.here.now c.args.regs.now.r c.args.work.now (now x c.args.fram.now w))
    (sym c.reserve.ensures.items) c.requires.1.0 in
    wild-ends g.origin c.args.instrs.now c.args.here.now c.args.regs.now.r c.args.work.now c.reserve.new.self.items
    c.args.fram.now c.instruction.new.fram w w2 c.in-Wild.address goes c.instruction.ensures.one_put
    c.instruction.ensures.poked spends

pub called-requires-clause-well_formed : goal.called-requires-clause-well_formed
called-requires-clause-well_formed g c =
    (may-call g.origin c.args.instrs.now c.args.here.now c.args.regs.now.r c.args.work.now c.args.records.now.items
    c.args.fram.now c.instruction.new.fram (g.W.World.state c.args.world.now) (g.W.World.state c.tick.new.self) c.requires.1.0
    c.instruction.ensures.one_put (ok_of c.tick.result c.tick.ensures.ok c.if-is_err.ensures.value) c.requires.1.1.1.0
    c.tick.ensures.lawful_before).well_formed

pub called-requires-clause-entries : goal.called-requires-clause-entries
called-requires-clause-entries g c =
    (may-call g.origin c.args.instrs.now c.args.here.now c.args.regs.now.r c.args.work.now c.args.records.now.items
    c.args.fram.now c.instruction.new.fram (g.W.World.state c.args.world.now) (g.W.World.state c.tick.new.self) c.requires.1.0
    c.instruction.ensures.one_put (ok_of c.tick.result c.tick.ensures.ok c.if-is_err.ensures.value) c.requires.1.1.1.0
    c.tick.ensures.lawful_before).ready.room

pub called-requires-clause-segment : goal.called-requires-clause-segment
called-requires-clause-segment g c =
    (may-call g.origin c.args.instrs.now c.args.here.now c.args.regs.now.r c.args.work.now c.args.records.now.items
    c.args.fram.now c.instruction.new.fram (g.W.World.state c.args.world.now) (g.W.World.state c.tick.new.self) c.requires.1.0
    c.instruction.ensures.one_put (ok_of c.tick.result c.tick.ensures.ok c.if-is_err.ensures.value) c.requires.1.1.1.0
    c.tick.ensures.lawful_before).ready.segment

pub returns-in-Service-clause-after : goal.returns-in-Service-clause-after
returns-in-Service-clause-after g c =
    let w = g.W.World.state c.args.world.now in
    let w1 = g.W.World.state c.tick.new.self in
    let w2 = g.W.World.state c.called.new.world in
    let spends : Spends 1 w w1 = ok_of c.tick.result c.tick.ensures.ok c.if-is_err.ensures.value in
    let goes : Goes g.origin c.args.instrs.now c.args.here.now c.args.regs.now.r c.args.work.now
    (now c.reserve.new.self.items c.args.fram.now w) =
    subst (λ x. Goes g.origin c.args.instrs.now c.args.here.now c.args.regs.now.r c.args.work.now (now x c.args.fram.now w))
    (sym c.reserve.ensures.items) c.requires.1.0 in
    served-turned g.origin c.args.instrs.now c.args.here.now c.in-Service.n c.args.regs.now.r c.instruction.new.regs.r
    c.called.new.regs.r c.args.work.now c.called.new.work c.reserve.new.self.items c.called.new.records.items c.args.fram.now
    c.instruction.new.fram c.called.new.fram w w1 w2 c.called.new.instrs c.called.result goes c.instruction.ensures.one_put
    c.instruction.ensures.poked spends c.in-Service.ensures.is
    (subst (λ (x : List Scalar). AreInData x) c.requires.1.1.1.1.0 c.requires.1.1.1.1.1.0)
    (subst (λ (x : List Scalar). IsServed x c.in-Service.n (c.args.here.now + 1) c.instruction.new.regs.r c.args.work.now
    (now c.reserve.new.self.items c.instruction.new.fram w1) c.args.instrs.now c.called.result c.called.new.regs.r
    c.called.new.work (now c.called.new.records.items c.called.new.fram w2) c.called.new.instrs) c.requires.1.1.1.1.0
    c.called.ensures.served)
