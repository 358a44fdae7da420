use Rattle.std.proofs.Common.{◌≡◌, ◌+◌, ◌<◌, ◌∙◌, ◌++◌, ◌∷◌, [], ap, arith, get_or, length, set, subst, sym}
use Rattle.base16.specs.declared.reading.Reading.TheVariants.{Sense}
use Rattle.world.specs.World.{WorldState}
use Rattle.world.specs.TraceWorld.{values_of, value_at, next_value}
use Rattle.world.proofs.TraceWorldLemmas.{kept_lawful, kept_sense}
use Rattle.world.proofs.trace_world.TraceWorldWorld.sense.Goals as goal

pub invariant_of-self : goal.invariant_of-self
invariant_of-self c =
    let w = c.self.inside in
    let room : length w.readings.items < w.spent = subst (λ (v : WorldState). length v.readings < v.spent)
    (sym c.self.view_is) c.requires.given in
    let next : c.value-value.result ≡ next_value w.trace w.readings.items c.args.channel = c.value-value.ensures
    ∙ ap (value_at (values_of w.trace c.args.channel)) (c.self.invariant.0.taken c.args.channel c.requires.channel) in (
      rw (c.push_within.ensures.items, c.push_within-2.ensures.items)
          (kept_sense w.trace w.begun w.spent w.left w.clock w.until c.args.channel c.value-value.result w.taken
          w.readings.items w.times.items w.firsts.items c.requires.channel (omega arith) (omega arith) room next
          c.self.invariant.0),
      omega (arith, c.self.invariant.1, c.push_within.ensures.capacity),
      omega (arith, c.self.invariant.2, c.push_within-2.ensures.capacity),
      c.self.invariant.3,
    )

pub returns-clause-lawful : goal.returns-clause-lawful
returns-clause-lawful c =
    let w = c.self.inside in
    let ch = c.args.channel in
    let v = c.value-value.result in
    let room : length w.readings.items < w.spent = subst (λ (s : WorldState). length s.readings < s.spent)
    (sym c.self.view_is) c.requires.given in
    let next : v ≡ next_value w.trace w.readings.items ch = c.value-value.ensures
    ∙ ap (value_at (values_of w.trace ch)) (c.self.invariant.0.taken ch c.requires.channel) in
    rw (c.push_within.ensures.items, c.push_within-2.ensures.items)
    (kept_lawful w.trace w.begun w.spent w.left w.clock w.until (set w.taken ch (get_or w.taken ch 0 + 1))
    (w.readings.items ++ Sense ch v ∷ []) (w.times.items ++ w.spent ∷ []) w.firsts.items
    (kept_sense w.trace w.begun w.spent w.left w.clock w.until ch v w.taken w.readings.items w.times.items w.firsts.items
    c.requires.channel (omega arith) (omega arith) room next c.self.invariant.0))
