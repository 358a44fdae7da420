use Rattle.std.proofs.Common.{refl}
use Rattle.core_layout.proofs.Placing.{bytes_turn}
use Rattle.core_layout.proofs.variables.bytes_of.Goals as goal

pub loop-next-preserved : goal.loop-next-preserved
loop-next-preserved c =
    bytes_turn c.args.all.now c.loop-next.next-index c.next-item.result c.loop-next.bytes c.start_behind.result _
    c.loop-next-test.true c.next-item.is c.loop-next.invariant c.start_behind.ensures refl
