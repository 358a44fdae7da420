use Rattle.std.proofs.Common.{arith}
use Rattle.world.proofs.TraceWorldLemmas.{kept_tick, kept_turn}
use Rattle.world.proofs.trace_world.TraceWorldWorld.tick.Goals as goal

pub invariant_of-self : goal.invariant_of-self
invariant_of-self c =
    let w = c.self.inside in (
      kept_tick w.trace w.begun w.spent w.left w.clock w.until w.taken w.readings.items w.times.items w.firsts.items
          (omega arith) (omega arith) c.self.invariant.0,
      c.self.invariant.1,
      c.self.invariant.2,
      c.self.invariant.3,
    )

pub invariant_of-self-else-self-gt1 : goal.invariant_of-self-else-self-gt1
invariant_of-self-else-self-gt1 c =
    let w = c.self.inside in (
      kept_turn w.trace w.begun w.spent w.left w.clock w.until c.rate-self-inside.result w.taken w.readings.items w.times.items
          w.firsts.items (omega arith) (omega arith) c.rate-self-inside.ensures c.self.invariant.0,
      c.self.invariant.1,
      c.self.invariant.2,
      c.self.invariant.3,
    )
