use Rattle.codegen.proofs.Turns.{called_more}
use Rattle.codegen.proofs.items.called_of.Goals as goal

pub loop-which-preserved : goal.loop-which-preserved
loop-which-preserved c =
    called_more c.args.items.now c.args.all.now c.loop-which.which-index _ c.helper_label.result c.has_call-is_called.result _ _
    c.loop-which-test.true c.helper_label.ensures c.has_call-is_called.ensures c.loop-which.invariant c.in_ok-push_if.ensures
