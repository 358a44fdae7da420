use Rattle.std.proofs.Common.{◌∙◌, ◌<◌, length, ap, None, arith}
use Rattle.std.proofs.lemmas.List.{length-set}
use Rattle.c_initialisers.proofs.Declaring.{stores_more}
use Rattle.c_initialisers.proofs.storing.stores.Goals as goal

pub loop-at-preserved : goal.loop-at-preserved
loop-at-preserved c =
    let low : c.loop-at.at < length c.args.slots.now = omega arith in (
      c.loop-at.invariant.0
          ∙ stores_more c.args.slots.now _ c.loop-at.rest c.replace-put.new.self c.loop-at.at c.replace-put.result c.loop-at.made
          c.push.new.self c.value_in.result low c.replace-put.ensures.found c.replace-put.ensures.rest c.value_in.ensures
          c.in_ok-push.ensures.ok,
      ap length c.replace-put.ensures.rest ∙ (length-set c.loop-at.rest c.loop-at.at None ∙ c.loop-at.invariant.1),
    )
