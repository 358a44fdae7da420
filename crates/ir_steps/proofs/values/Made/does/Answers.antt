-- Each step does what its kind's definition says.
use Rattle.ir_steps.proofs.Dispatch.{at_kind}
use Rattle.ir_steps.proofs.values.Made.does.Goals as goal

pub returns-in-Put : goal.returns-in-Put
returns-in-Put c =
    at_kind c.args.self.now.ir.now c.args.self.now.readings.now c.args.self.now.node c.args.self.now.position
    c.args.self.now.first c.args.kind _ c.args.temporaries.now c.put.new.temporaries c.args.run.now c.args.run.now
    c.put.result c.in-Put.is c.put.ensures

pub returns-in-Nothing : goal.returns-in-Nothing
returns-in-Nothing c =
    at_kind c.args.self.now.ir.now c.args.self.now.readings.now c.args.self.now.node c.args.self.now.position
    c.args.self.now.first c.args.kind _ c.args.temporaries.now c.nothing.new.temporaries c.args.run.now c.args.run.now
    c.nothing.result c.in-Nothing.is c.nothing.ensures

pub returns-in-Drop : goal.returns-in-Drop
returns-in-Drop c =
    at_kind c.args.self.now.ir.now c.args.self.now.readings.now c.args.self.now.node c.args.self.now.position
    c.args.self.now.first c.args.kind _ c.args.temporaries.now c.drop_top.new.temporaries c.args.run.now c.args.run.now
    c.drop_top.result c.in-Drop.is c.drop_top.ensures

pub returns-in-Beside : goal.returns-in-Beside
returns-in-Beside c =
    at_kind c.args.self.now.ir.now c.args.self.now.readings.now c.args.self.now.node c.args.self.now.position
    c.args.self.now.first c.args.kind _ c.args.temporaries.now c.beside.new.temporaries c.args.run.now c.args.run.now
    c.beside.result c.in-Beside.is c.beside.ensures

pub returns-in-Convert : goal.returns-in-Convert
returns-in-Convert c =
    at_kind c.args.self.now.ir.now c.args.self.now.readings.now c.args.self.now.node c.args.self.now.position
    c.args.self.now.first c.args.kind _ c.args.temporaries.now c.convert.new.temporaries c.args.run.now c.args.run.now
    c.convert.result c.in-Convert.is c.convert.ensures

pub returns-in-Unary : goal.returns-in-Unary
returns-in-Unary c =
    at_kind c.args.self.now.ir.now c.args.self.now.readings.now c.args.self.now.node c.args.self.now.position
    c.args.self.now.first c.args.kind _ c.args.temporaries.now c.unary.new.temporaries c.args.run.now c.args.run.now
    c.unary.result c.in-Unary.is c.unary.ensures

pub returns-in-Binary : goal.returns-in-Binary
returns-in-Binary c =
    at_kind c.args.self.now.ir.now c.args.self.now.readings.now c.args.self.now.node c.args.self.now.position
    c.args.self.now.first c.args.kind _ c.args.temporaries.now c.binary.new.temporaries c.args.run.now c.args.run.now
    c.binary.result c.in-Binary.is c.binary.ensures

pub returns-in-Truth : goal.returns-in-Truth
returns-in-Truth c =
    at_kind c.args.self.now.ir.now c.args.self.now.readings.now c.args.self.now.node c.args.self.now.position
    c.args.self.now.first c.args.kind _ c.args.temporaries.now c.truth.new.temporaries c.args.run.now c.args.run.now
    c.truth.result c.in-Truth.is c.truth.ensures

pub returns-in-Address : goal.returns-in-Address
returns-in-Address c =
    at_kind c.args.self.now.ir.now c.args.self.now.readings.now c.args.self.now.node c.args.self.now.position
    c.args.self.now.first c.args.kind _ c.args.temporaries.now c.address.new.temporaries c.args.run.now c.args.run.now
    c.address.result c.in-Address.is c.address.ensures

pub returns-in-Follow : goal.returns-in-Follow
returns-in-Follow c =
    at_kind c.args.self.now.ir.now c.args.self.now.readings.now c.args.self.now.node c.args.self.now.position
    c.args.self.now.first c.args.kind _ c.args.temporaries.now c.follow.new.temporaries c.args.run.now c.args.run.now
    c.follow.result c.in-Follow.is c.follow.ensures

pub returns-in-Member : goal.returns-in-Member
returns-in-Member c =
    at_kind c.args.self.now.ir.now c.args.self.now.readings.now c.args.self.now.node c.args.self.now.position
    c.args.self.now.first c.args.kind _ c.args.temporaries.now c.member.new.temporaries c.args.run.now c.args.run.now
    c.member.result c.in-Member.is c.member.ensures

pub returns-in-Element : goal.returns-in-Element
returns-in-Element c =
    at_kind c.args.self.now.ir.now c.args.self.now.readings.now c.args.self.now.node c.args.self.now.position
    c.args.self.now.first c.args.kind _ c.args.temporaries.now c.element.new.temporaries c.args.run.now c.args.run.now
    c.element.result c.in-Element.is c.element.ensures

pub returns-in-Sum : goal.returns-in-Sum
returns-in-Sum c =
    at_kind c.args.self.now.ir.now c.args.self.now.readings.now c.args.self.now.node c.args.self.now.position
    c.args.self.now.first c.args.kind _ c.args.temporaries.now c.sum.new.temporaries c.args.run.now c.args.run.now
    c.sum.result c.in-Sum.is c.sum.ensures

pub returns-in-PointTo : goal.returns-in-PointTo
returns-in-PointTo c =
    at_kind c.args.self.now.ir.now c.args.self.now.readings.now c.args.self.now.node c.args.self.now.position
    c.args.self.now.first c.args.kind _ c.args.temporaries.now c.point_to.new.temporaries c.args.run.now c.args.run.now
    c.point_to.result c.in-PointTo.is c.point_to.ensures

pub returns-in-Load : goal.returns-in-Load
returns-in-Load c =
    at_kind c.args.self.now.ir.now c.args.self.now.readings.now c.args.self.now.node c.args.self.now.position
    c.args.self.now.first c.args.kind _ c.args.temporaries.now c.load.new.temporaries c.args.run.now c.args.run.now
    c.load.result c.in-Load.is c.load.ensures

pub returns-in-Peek : goal.returns-in-Peek
returns-in-Peek c =
    at_kind c.args.self.now.ir.now c.args.self.now.readings.now c.args.self.now.node c.args.self.now.position
    c.args.self.now.first c.args.kind _ c.args.temporaries.now c.peek.new.temporaries c.args.run.now c.args.run.now
    c.peek.result c.in-Peek.is c.peek.ensures

pub returns-in-Store : goal.returns-in-Store
returns-in-Store c =
    at_kind c.args.self.now.ir.now c.args.self.now.readings.now c.args.self.now.node c.args.self.now.position
    c.args.self.now.first c.args.kind _ c.args.temporaries.now c.store.new.temporaries c.args.run.now c.store.new.run
    c.store.result c.in-Store.is c.store.ensures

pub returns-in-StoreLocal : goal.returns-in-StoreLocal
returns-in-StoreLocal c =
    at_kind c.args.self.now.ir.now c.args.self.now.readings.now c.args.self.now.node c.args.self.now.position
    c.args.self.now.first c.args.kind _ c.args.temporaries.now c.store_local.new.temporaries c.args.run.now c.store_local.new.run
    c.store_local.result c.in-StoreLocal.is c.store_local.ensures

pub returns-in-Update : goal.returns-in-Update
returns-in-Update c =
    at_kind c.args.self.now.ir.now c.args.self.now.readings.now c.args.self.now.node c.args.self.now.position
    c.args.self.now.first c.args.kind _ c.args.temporaries.now c.update.new.temporaries c.args.run.now c.update.new.run
    c.update.result c.in-Update.is c.update.ensures

pub returns-in-UpdateLocal : goal.returns-in-UpdateLocal
returns-in-UpdateLocal c =
    at_kind c.args.self.now.ir.now c.args.self.now.readings.now c.args.self.now.node c.args.self.now.position
    c.args.self.now.first c.args.kind _ c.args.temporaries.now c.update_local.new.temporaries c.args.run.now
    c.update_local.new.run
    c.update_local.result c.in-UpdateLocal.is c.update_local.ensures

pub returns-in-Undefine : goal.returns-in-Undefine
returns-in-Undefine c =
    at_kind c.args.self.now.ir.now c.args.self.now.readings.now c.args.self.now.node c.args.self.now.position
    c.args.self.now.first c.args.kind _ c.args.temporaries.now c.args.temporaries.now c.args.run.now c.undefine.new.run
    c.undefine.result c.in-Undefine.is c.undefine.ensures

pub returns-in-Branch : goal.returns-in-Branch
returns-in-Branch c =
    at_kind c.args.self.now.ir.now c.args.self.now.readings.now c.args.self.now.node c.args.self.now.position
    c.args.self.now.first c.args.kind _ c.args.temporaries.now c.branch-self.new.temporaries c.args.run.now c.args.run.now
    c.branch-self.result c.in-Branch.is c.branch-self.ensures

pub returns-in-Turn : goal.returns-in-Turn
returns-in-Turn c =
    at_kind c.args.self.now.ir.now c.args.self.now.readings.now c.args.self.now.node c.args.self.now.position
    c.args.self.now.first c.args.kind _ c.args.temporaries.now c.args.temporaries.now c.args.run.now c.turn.new.run
    c.turn.result c.in-Turn.is c.turn.ensures

pub returns-in-Sense : goal.returns-in-Sense
returns-in-Sense c =
    at_kind c.args.self.now.ir.now c.args.self.now.readings.now c.args.self.now.node c.args.self.now.position
    c.args.self.now.first c.args.kind _ c.args.temporaries.now c.sense.new.temporaries c.args.run.now c.sense.new.run
    c.sense.result c.in-Sense.is c.sense.ensures

pub returns-in-Emit : goal.returns-in-Emit
returns-in-Emit c =
    at_kind c.args.self.now.ir.now c.args.self.now.readings.now c.args.self.now.node c.args.self.now.position
    c.args.self.now.first c.args.kind _ c.args.temporaries.now c.emit.new.temporaries c.args.run.now c.emit.new.run
    c.emit.result c.in-Emit.is c.emit.ensures

pub returns-in-Checkpoint : goal.returns-in-Checkpoint
returns-in-Checkpoint c =
    at_kind c.args.self.now.ir.now c.args.self.now.readings.now c.args.self.now.node c.args.self.now.position
    c.args.self.now.first c.args.kind _ c.args.temporaries.now c.checkpoint.new.temporaries c.args.run.now c.checkpoint.new.run
    c.checkpoint.result c.in-Checkpoint.is c.checkpoint.ensures

pub returns-in-Stamp : goal.returns-in-Stamp
returns-in-Stamp c =
    at_kind c.args.self.now.ir.now c.args.self.now.readings.now c.args.self.now.node c.args.self.now.position
    c.args.self.now.first c.args.kind _ c.args.temporaries.now c.stamp.new.temporaries c.args.run.now c.stamp.new.run
    c.stamp.result c.in-Stamp.is c.stamp.ensures

pub returns-in-Timely : goal.returns-in-Timely
returns-in-Timely c =
    at_kind c.args.self.now.ir.now c.args.self.now.readings.now c.args.self.now.node c.args.self.now.position
    c.args.self.now.first c.args.kind _ c.args.temporaries.now c.timely.new.temporaries c.args.run.now c.timely.new.run
    c.timely.result c.in-Timely.is c.timely.ensures

pub returns-in-Open : goal.returns-in-Open
returns-in-Open c =
    at_kind c.args.self.now.ir.now c.args.self.now.readings.now c.args.self.now.node c.args.self.now.position
    c.args.self.now.first c.args.kind _ c.args.temporaries.now c.args.temporaries.now c.args.run.now c.open.new.run
    c.open.result c.in-Open.is c.open.ensures

pub returns-in-Check : goal.returns-in-Check
returns-in-Check c =
    at_kind c.args.self.now.ir.now c.args.self.now.readings.now c.args.self.now.node c.args.self.now.position
    c.args.self.now.first c.args.kind _ c.args.temporaries.now c.args.temporaries.now c.args.run.now c.check.new.run
    c.check.result c.in-Check.is c.check.ensures

pub returns-in-Close : goal.returns-in-Close
returns-in-Close c =
    at_kind c.args.self.now.ir.now c.args.self.now.readings.now c.args.self.now.node c.args.self.now.position
    c.args.self.now.first c.args.kind _ c.args.temporaries.now c.args.temporaries.now c.args.run.now c.close.new.run
    c.close.result c.in-Close.is c.close.ensures
