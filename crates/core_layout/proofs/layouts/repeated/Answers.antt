use Rattle.std.proofs.Common.{arith}
use Rattle.core_layout.specs.Laid.{layout_of}
use Rattle.core_layout.proofs.Laying.{copies_step}
use Rattle.core_layout.proofs.layouts.repeated.Goals as goal

pub loop-copy-preserved : goal.loop-copy-preserved
loop-copy-preserved c =
    copies_step c.args.count c.loop-copy._copy c.loop-copy.at c.in_ok-by.by _ (layout_of c.args.of.now) _ c.loop-copy.slots _
    (omega arith) c.loop-copy.invariant c.in_ok-by.ensures (rw (← c.as_slice.ensures) c.in_ok-push_moved.ensures) (omega arith)
