use Rattle.ir_gen.specs.Body as spec
use Rattle.std.proofs.Common.{map}
use Rattle.c_meaning.specs.Statements.{has_default}
use Rattle.ir_build.specs.Grouping.{grouped}
use Rattle.ir_build.proofs.StmtTurns.{place_step}
use Rattle.ir_build.proofs.cases.default_place.Goals as goal

pub loop-group-preserved : goal.loop-group-preserved
loop-group-preserved c =
    place_step c.args.structs.now c.args.objects.now c.loop-group.place c.in_ok-place.place c.args.groups.now
    c.loop-group.group-index c.group-item.result c.as_slice.result.now c.as_slice-in-loop-group.result.now
    c.in_ok-stmts_count.field-0
    (spec.place_of has_default c.args.start (map (grouped c.args.structs.now c.args.objects.now) c.args.groups.now))
    c.with_default.result c.loop-group-test.true c.group-item.is c.loop-group.invariant c.as_slice.ensures
    c.with_default.ensures c.if-with_default.false c.as_slice-in-loop-group.ensures c.in_ok-stmts_count.ensures
    c.in_ok-place.ensures
