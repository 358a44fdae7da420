use Rattle.core_tree.specs.Layout.{layouts}
use Rattle.core_layout.specs.Laid.{layout_of}
use Rattle.core_layout.proofs.Laying.{members_step}
use Rattle.core_layout.proofs.layouts.members_laid.Goals as goal

pub loop-member-preserved : goal.loop-member-preserved
loop-member-preserved c =
    members_step (layouts c.args._structs.now) c.args.members.now c.loop-member.member-index c.member-item.result
    (layout_of c.loop-member.sum)
    (layout_of c.in_ok-next.next) (layout_of c.in_ok-sum.sum) c.loop-member-test.true c.member-item.is
    c.loop-member.invariant c.in_ok-next.ensures c.in_ok-sum.ensures
