use Rattle.core_layout.proofs.Naming.{structs_step}
use Rattle.core_layout.proofs.names.structs_named.Goals as goal

pub loop-at-preserved : goal.loop-at-preserved
loop-at-preserved c =
    structs_step c.args.structs.now c.loop-at.named c.push.new.self c.loop-at.at c.index-structs-at.result c.in_ok-next.next
    c.loop-at-test.true c.index-structs-at.is c.loop-at.invariant c.in_ok-next.ensures c.in_ok-push.ensures.ok
