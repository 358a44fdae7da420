-- Power cycle after power cycle.
use Rattle.std.proofs.Common.{◌≡◌, ◌+◌, ◌∙◌, inr, ap, subst, arith, [], ◌∷◌, ◌++◌}
use Rattle.std.proofs.lemmas.Result.{err_from_is_err_and}
use Rattle.base16.specs.declared.end.EndKind.TheVariants.{Power}
use Rattle.world.specs.declared.history.Record.TheVariants.{On, Off, End}
use Rattle.player.specs.Form.{is_power, cycles_in}
use Rattle.player.specs.Playing.{now}
use Rattle.player.specs.Turning.{Begins, IsCut, Ends, Cycled}
use Rattle.player.proofs.Records.{cycles-more}
use Rattle.player.proofs.Cycles.{cycles-total, woken, cut, over, out_of_power, spent-out, not-both, whole-between, whole-within}
use Rattle.player.proofs.cycling.cycles.Goals as goal

pub returns-in_err-reserve-clause-plays : goal.returns-in_err-reserve-clause-plays
returns-in_err-reserve-clause-plays g c =
    let p = err_from_is_err_and c.from_residual.result c.from_residual.ensures.1 in
    let whole = whole-between g.origin c.powered.instrs c.powered.records.items c.reserve.new.self.items c.powered.fram
    (g.W.World.state c.powered.world) c.powered.invariant.rests c.reserve.ensures.items in
    rw p.1 whole

pub returns-then-not-wake-clause-plays : goal.returns-then-not-wake-clause-plays
returns-then-not-wake-clause-plays g c =
    out_of_power g.origin c.powered.instrs c.powered.records.items c.push_within.new.items.items c.powered.fram
    (g.W.World.state c.powered.world) (g.W.World.state c.wake.new.self) c.powered.invariant.rests
    (c.push_within.ensures.items ∙ ap (λ r. r ++ End Power ∷ []) c.reserve.ensures.items) c.if-not-wake.ensures.unchanged

pub returns-then-not-wake-clause-power : goal.returns-then-not-wake-clause-power
returns-then-not-wake-clause-power g c = λ e.
    spent-out g.origin c.powered.invariant.rests.cursor.begun c.powered.records.items (g.W.World.state c.powered.world)
    (g.W.World.state c.wake.new.self) c.powered.invariant.rests.rests.keeps.power c.powered.invariant.idle
    c.if-not-wake.ensures.none c.if-not-wake.ensures.unchanged

pub cycle-requires : goal.cycle-requires
cycle-requires g c =
    let w2 = g.W.World.state c.wake.new.self in
    let begins : Begins g.origin c.powered.instrs (now c.push_within-in-powered.new.items.items c.powered.fram w2) =
    woken g.origin c.powered.instrs c.powered.number c.powered.records.items c.push_within-in-powered.new.items.items
    c.powered.fram (g.W.World.state c.powered.world) w2 c.powered.invariant.rests c.powered.invariant.idle
    c.powered.invariant.number c.if-not-wake.ensures.woken
    (c.push_within-in-powered.ensures.items ∙ ap (λ r. r ++ On (c.powered.number + 1) ∷ []) c.reserve.ensures.items) in
    λ κs h. (
      h,
      (
        begins,
        (
          omega (
            arith,
            c.in_ok-reserve.ensures.ok,
            c.push_within-in-powered.ensures.len,
            c.push_within-in-powered.ensures.capacity,
          ),
          (
            c.requires.1.1.1.1.1.0,
            (
              c.requires.1.1.1.1.1.1.0,
              (c.requires.1.1.1.1.1.1.1.0, (c.requires.1.1.1.1.1.1.1.1, c.powered.invariant.empty)),
            ),
          ),
        ),
      ),
    )

pub returns-in_err-ended-clause-plays : goal.returns-in_err-ended-clause-plays
returns-in_err-ended-clause-plays g c =
    let p = err_from_is_err_and c.from_residual-in_err-ended.result c.from_residual-in_err-ended.ensures.1 in
    let whole = whole-within g.origin c.cycle.new.instrs c.cycle.new.records.items c.cycle.new.fram
    (g.W.World.state c.cycle.new.world) c.in_err-ended.ensures.err in
    rw p.1 whole

pub returns-in-Some-clause-plays : goal.returns-in-Some-clause-plays
returns-in-Some-clause-plays g c =
    let a = now c.cycle.new.records.items c.cycle.new.fram (g.W.World.state c.cycle.new.world) in
    let ends : Ends g.origin c.in-Some.kind a =
    subst (λ e. Cycled e g.origin c.cycle.new.instrs a) c.in-Some.is c.in_ok-ended.ensures.after in
    over g.origin c.in-Some.kind c.cycle.new.records.items c.push_within-in-Some.new.items.items c.cycle.new.fram
    (g.W.World.state c.cycle.new.world) ends c.push_within-in-Some.ensures.items

pub returns-in-Some-clause-power : goal.returns-in-Some-clause-power
returns-in-Some-clause-power g c =
    let a = now c.cycle.new.records.items c.cycle.new.fram (g.W.World.state c.cycle.new.world) in
    let ends : Ends g.origin c.in-Some.kind a =
    subst (λ e. Cycled e g.origin c.cycle.new.instrs a) c.in-Some.is c.in_ok-ended.ensures.after in
    λ e. absurd (not-both (is_power c.in-Some.kind) ends.own e)

pub powered-preserved : goal.powered-preserved
powered-preserved g c =
    let w = g.W.World.state c.powered.world in
    let w3 = g.W.World.state c.cycle.new.world in
    let a = now c.cycle.new.records.items c.cycle.new.fram w3 in
    let off : IsCut g.origin c.cycle.new.instrs a =
    subst (λ e. Cycled e g.origin c.cycle.new.instrs a) c.in_default.is c.in_ok-ended.ensures.after in
    let before : w.cycles + cycles_in c.powered.records.items ≡ g.origin.world.cycles + cycles_in g.origin.records =
    cycles-total g.origin c.powered.invariant.rests.cursor.begun c.powered.records.items w
    c.powered.invariant.rests.rests.keeps.power in
    let behind : w3.cycles + cycles_in c.cycle.new.records.items ≡ g.origin.world.cycles + cycles_in g.origin.records =
    cycles-total g.origin off.cursor.begun c.cycle.new.records.items w3 off.rests.keeps.power in
    let same : cycles_in c.push_within-in-powered-2.new.items.items ≡ cycles_in c.cycle.new.records.items =
    ap cycles_in c.push_within-in-powered-2.ensures.items ∙ cycles-more c.cycle.new.records.items Off in
    let kept : w3.cycles ≡ (g.W.World.state c.wake.new.self).cycles = c.cycle.ensures.cycles in
    let fewer : w.cycles ≡ (g.W.World.state c.wake.new.self).cycles + 1 = c.if-not-wake.ensures.woken.cycles in
    let number : c.powered.number ≡ cycles_in c.powered.records.items = c.powered.invariant.number in
    record {
      rests = cut g.origin c.cycle.new.instrs c.cycle.new.records.items c.push_within-in-powered-2.new.items.items
          c.cycle.new.fram w3 off c.push_within-in-powered-2.ensures.items;
      idle = inr off.none;
      number = omega arith;
      empty = c.cycle.ensures.empty;
    }
