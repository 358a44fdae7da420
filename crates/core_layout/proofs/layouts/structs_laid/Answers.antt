use Rattle.core_layout.proofs.Laying.{structs_step}
use Rattle.core_layout.proofs.layouts.structs_laid.Goals as goal

pub loop-at-preserved : goal.loop-at-preserved
loop-at-preserved c =
    structs_step c.args.structs.now c.loop-at.known c.push.new.self c.loop-at.at c.index-structs-at.result
    c.in_ok-if_small.field-0
    c.struct_laid-next.result c.loop-at-test.true c.index-structs-at.is c.loop-at.invariant
    (c.struct_laid-next.ensures) c.in_ok-if_small.ensures c.in_ok-push.ensures.ok
