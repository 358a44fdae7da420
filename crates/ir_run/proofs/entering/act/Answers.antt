-- Each step does what its kind's definition says.
use Rattle.ir_run.proofs.Acting.{act_kind, as_stays}
use Rattle.ir_run.proofs.entering.act.Goals as goal

pub returns-in-Call : goal.returns-in-Call
returns-in-Call c =
    act_kind c.args.made.now.ir.now c.args.made.now.readings.now c.args.function c.args.made.now.position c.args.made.now.first
    c.args.below c.args.made.now.node c.args.kind _ c.args.temporaries c.args.run.now c.args.run.now c.call.result c.in-Call.is
    c.call.ensures

pub returns-in-Return : goal.returns-in-Return
returns-in-Return c =
    act_kind c.args.made.now.ir.now c.args.made.now.readings.now c.args.function c.args.made.now.position c.args.made.now.first
    c.args.below c.args.made.now.node c.args.kind _ c.args.temporaries c.args.run.now c.come_back.new.run c.come_back.result
    c.in-Return.is c.come_back.ensures

pub returns-in-ReturnNothing : goal.returns-in-ReturnNothing
returns-in-ReturnNothing c =
    act_kind c.args.made.now.ir.now c.args.made.now.readings.now c.args.function c.args.made.now.position c.args.made.now.first
    c.args.below c.args.made.now.node c.args.kind _ c.args.temporaries c.args.run.now c.leave.new.run c.leave.result
    c.in-ReturnNothing.is c.leave.ensures

pub returns-in_default : goal.returns-in_default
returns-in_default c =
    as_stays c.args.made.now.ir.now c.args.made.now.readings.now c.args.function c.args.made.now.position c.args.made.now.first
    c.args.below c.args.made.now.node c.args.kind c.args.temporaries c.args.run.now c.stay.new.run c.stay.result
    c.in_default.not-Call c.in_default.not-Return c.in_default.not-ReturnNothing c.stay.ensures
