use Rattle.std.proofs.Common.{◌<◌, ◌++◌, ◌∷◌, [], arith, length, subst, sym}
use Rattle.base16.specs.declared.reading.Reading.TheVariants.{Clock}
use Rattle.world.specs.World.{WorldState}
use Rattle.world.proofs.TraceWorldLemmas.{kept_lawful, kept_now}
use Rattle.world.proofs.trace_world.TraceWorldWorld.now.Goals as goal

pub invariant_of-self : goal.invariant_of-self
invariant_of-self c =
    let w = c.self.inside in
    let room : length w.readings.items < w.spent = subst (λ (v : WorldState). length v.readings < v.spent)
    (sym c.self.view_is) c.requires in (
      rw (c.push_within.ensures.items, c.push_within-2.ensures.items)
          (kept_now w.trace w.begun w.spent w.left w.clock w.until w.taken w.readings.items w.times.items w.firsts.items room
          c.self.invariant.0),
      omega (arith, c.self.invariant.1, c.push_within.ensures.capacity),
      omega (arith, c.self.invariant.2, c.push_within-2.ensures.capacity),
      c.self.invariant.3,
    )

pub returns-clause-lawful : goal.returns-clause-lawful
returns-clause-lawful c =
    let w = c.self.inside in
    let room : length w.readings.items < w.spent = subst (λ (v : WorldState). length v.readings < v.spent)
    (sym c.self.view_is) c.requires in
    rw (c.push_within.ensures.items, c.push_within-2.ensures.items)
    (kept_lawful w.trace w.begun w.spent w.left w.clock w.until w.taken (w.readings.items ++ Clock w.clock ∷ [])
    (w.times.items ++ w.spent ∷ []) w.firsts.items
    (kept_now w.trace w.begun w.spent w.left w.clock w.until w.taken w.readings.items w.times.items w.firsts.items room
    c.self.invariant.0))
