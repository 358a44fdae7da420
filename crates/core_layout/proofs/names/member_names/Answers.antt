use Rattle.core_tree.specs.Data.{struct_names}
use Rattle.core_layout.proofs.Naming.{members_step}
use Rattle.core_layout.proofs.names.member_names.Goals as goal

pub loop-member-preserved : goal.loop-member-preserved
loop-member-preserved c =
    members_step (struct_names c.args._structs.now) c.args.members.now c.loop-member.member-index c.member-item.result
    c.in_ok-text.text
    c.loop-member.all c.in_ok-names.names c.push_behind.new.into c.loop-member-test.true c.member-item.is
    c.loop-member.invariant
    c.in_ok-names.ensures (rw (← c.bytes.ensures) c.in_ok-text.ensures)
    (rw (← c.as_slice.ensures, ← c.as_slice-in-loop-member.ensures) c.in_ok-push_behind.ensures)
