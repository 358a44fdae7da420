use Rattle.std.proofs.Common.{◌≡◌, ◌+◌, subst, arith, length}
use Rattle.world.specs.World.{WorldState, Wakes}
use Rattle.world.specs.TraceWorld.{world_of}
use Rattle.world.proofs.TraceWorldLemmas.{kept_wake, wakes}
use Rattle.world.proofs.trace_world.TraceWorldWorld.wake.Goals as goal

pub invariant_of-self : goal.invariant_of-self
invariant_of-self c =
    let w = c.self.inside in
    let n : c.len-given.result ≡ length w.readings.items = omega (arith, c.len-given.ensures) in (
      rw (c.push_within.ensures.items, n) (kept_wake w.trace w.begun w.spent w.left w.clock w.until c.off_behind.result
          c.cycle.result w.taken w.readings.items w.times.items w.firsts.items c.cycle.ensures c.off_behind.ensures
          c.self.invariant.0),
      c.self.invariant.1,
      c.self.invariant.2,
      omega (arith, c.self.invariant.3, c.push_within.ensures.capacity),
    )

pub returns-clause-woken : goal.returns-clause-woken
returns-clause-woken c =
    let w = c.self.inside in
    let n : c.len-given.result ≡ length w.readings.items = omega (arith, c.len-given.ensures) in
    subst (λ (v : WorldState). Wakes v (world_of w.trace (w.begun + 1) w.spent c.cycle.result.ticks
    (w.clock + c.off_behind.result) w.readings.items w.times.items c.push_within.new.items.items)) c.self.view_is
    (rw (c.push_within.ensures.items, n) (wakes w.trace w.begun w.spent w.left w.clock c.off_behind.result c.cycle.result
    w.readings.items w.times.items w.firsts.items c.cycle.ensures))
