use Rattle.ir_build.proofs.Loops.{for_ends, for_none_made, for_some_made, groups_made, groups_sized}
use Rattle.ir_build.proofs.statements.+stmt.Goals as goal

pub for_steps-returns-in_ok-put_step-in-None-clause-steps : goal.for_steps-returns-in_ok-put_step-in-None-clause-steps
for_steps-returns-in_ok-put_step-in-None-clause-steps t c =
    let x = c.in-For in
    let n = c.in_ok-next-in-None in
    let y = c.in_ok-stmt_steps-in-None.ensures in
    for_none_made c.args.structs.now c.args.objects.now c.args.stmt.now x.first x.test x.step x.body c.args.brk c.args.cont
    c.args.code.now c.put_step.new.code x.is c.in-None.is
    (for_ends c.args.structs.now c.args.objects.now c.args.stmt.now x.test x.step x.body c.get.result.now
    c.get-in-None.result.now c.args.brk c.args.cont c.in_ok-turn-in-None.turn n.next n.end c.args.code.now c.put_for_turn.new.code
    c.stmt_steps.new.code c.put_step.new.code c.get.ensures c.get-in-None.ensures c.in_ok-turn-in-None.ensures n.ensures.steps
    n.ensures.size n.ensures.next n.ensures.end y.steps y.size c.in_ok-put_step-in-None.ensures.steps)

pub for_steps-returns-in_ok-put_step-in-Some-clause-steps : goal.for_steps-returns-in_ok-put_step-in-Some-clause-steps
for_steps-returns-in_ok-put_step-in-Some-clause-steps t c =
    let x = c.in-For in
    let f = c.in_ok-stmt_steps-in-Some.ensures in
    let n = c.in_ok-next-in-Some in
    let y = c.in_ok-stmt_steps-in-Some-2.ensures in
    for_some_made c.args.structs.now c.args.objects.now c.args.stmt.now x.first c.in-Some.first c.get-in-Some.result.now x.test
    x.step x.body c.args.brk c.args.cont c.args.code.now c.stmt_steps-in-Some.new.code c.put_step-in-Some.new.code x.is
    c.in-Some.is
    c.get-in-Some.ensures f.steps f.size
    (for_ends c.args.structs.now c.args.objects.now c.args.stmt.now x.test x.step x.body c.get-in-Some-2.result.now
    c.get-in-Some-3.result.now c.args.brk c.args.cont c.in_ok-turn-in-Some.turn n.next n.end c.stmt_steps-in-Some.new.code
    c.put_for_turn-in-Some.new.code c.stmt_steps-in-Some-2.new.code c.put_step-in-Some.new.code c.get-in-Some-2.ensures
    c.get-in-Some-3.ensures c.in_ok-turn-in-Some.ensures n.ensures.steps n.ensures.size n.ensures.next n.ensures.end y.steps
    y.size
    c.in_ok-put_step-in-Some.ensures.steps)

pub groups_steps-loop-group-preserved : goal.groups_steps-loop-group-preserved
groups_steps-loop-group-preserved t c =
    record {
      steps = groups_made c.args.structs.now c.args.objects.now c.args.groups.now c.loop-group.group-index c.group-item.result
          c.as_slice.result.now c.args.brk c.args.cont _ c.loop-group.code c.stmts_steps.new.code c.loop-group-test.true
          c.group-item.is c.as_slice.ensures c.loop-group.invariant.steps c.in_ok-stmts_steps.ensures.steps
          c.in_ok-stmts_steps.ensures.size;
      size = groups_sized c.args.structs.now c.args.objects.now c.args.groups.now c.loop-group.group-index c.group-item.result
          c.as_slice.result.now _ _ _ c.loop-group-test.true c.group-item.is c.as_slice.ensures c.loop-group.invariant.size
          c.in_ok-stmts_steps.ensures.size;
    }
