use Rattle.std.proofs.Common.{◌+◌, ◌++◌, length, map}
use Rattle.ir_gen.specs.Body as spec
use Rattle.ir_build.specs.Grouping.{grouped}
use Rattle.ir_build.proofs.StmtTurns.{cases_step, counts_step}
use Rattle.ir_build.proofs.cases.case_steps.Goals as goal

pub loop-group-preserved : goal.loop-group-preserved
loop-group-preserved c =
    let groups = map (grouped c.args.structs.now c.args.objects.now) c.args.groups.now in
    record {
      steps = cases_step c.args.structs.now c.args.objects.now c.args.node c.args.of c.loop-group.to c.in_ok-to.to
          c.args.groups.now c.loop-group.group-index c.group-item.result c.as_slice.result.now
          c.as_slice-in-loop-group.result.now c.in_ok-stmts_count.field-0
          (c.args.code.now ++ spec.cases c.args.node c.args.of c.args.start groups) c.loop-group.code c.label_steps.new.code
          c.loop-group-test.true c.group-item.is c.loop-group.invariant.steps c.as_slice.ensures
          c.in_ok-label_steps.ensures.steps c.as_slice-in-loop-group.ensures c.in_ok-stmts_count.ensures c.in_ok-to.ensures;
      size = counts_step c.args.structs.now c.args.objects.now c.args.groups.now c.loop-group.group-index
          c.group-item.result c.as_slice.result.now (length c.args.code.now + spec.case_count groups)
          (length c.loop-group.code) (length c.label_steps.new.code) c.loop-group-test.true c.group-item.is
          c.loop-group.invariant.size c.as_slice.ensures c.in_ok-label_steps.ensures.size;
    }
