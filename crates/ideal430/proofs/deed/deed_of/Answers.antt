use Rattle.core430.specs.Registers.{view_of}
use Rattle.ideal430.specs.declared.service.Service.TheVariants.{Enter, Leave, StoreWord, StoreByte, Emit}
use Rattle.ideal430.proofs.Refusing.{enter_ready, leave_ready, own_effect-at}
use Rattle.ideal430.proofs.deed.deed_of.Goals as goal

pub enter-requires-clause-frame : goal.enter-requires-clause-frame
enter-requires-clause-frame g c =
    (enter_ready c.args.service (view_of c.args.found.now.r) (g.M.Words.words c.args.memory.now)
    (view_of c.popped-regs.result.r) c.args.segment c.in-Enter.is c.requires.allowed c.popped-regs.ensures).frame

pub enter-requires-clause-top : goal.enter-requires-clause-top
enter-requires-clause-top g c =
    (enter_ready c.args.service (view_of c.args.found.now.r) (g.M.Words.words c.args.memory.now)
    (view_of c.popped-regs.result.r) c.args.segment c.in-Enter.is c.requires.allowed c.popped-regs.ensures).top

pub enter-requires-clause-place : goal.enter-requires-clause-place
enter-requires-clause-place g c =
    (enter_ready c.args.service (view_of c.args.found.now.r) (g.M.Words.words c.args.memory.now)
    (view_of c.popped-regs.result.r) c.args.segment c.in-Enter.is c.requires.allowed c.popped-regs.ensures).place

pub leave-requires-clause-even : goal.leave-requires-clause-even
leave-requires-clause-even g c =
    (leave_ready c.args.service (view_of c.args.found.now.r) (g.M.Words.words c.args.memory.now)
    (view_of c.popped-regs.result.r) c.args.segment c.in-Leave.is c.requires.allowed c.popped-regs.ensures).even

pub leave-requires-clause-end : goal.leave-requires-clause-end
leave-requires-clause-end g c =
    (leave_ready c.args.service (view_of c.args.found.now.r) (g.M.Words.words c.args.memory.now)
    (view_of c.popped-regs.result.r) c.args.segment c.in-Leave.is c.requires.allowed c.popped-regs.ensures).end

pub leave-requires-clause-link : goal.leave-requires-clause-link
leave-requires-clause-link g c =
    (leave_ready c.args.service (view_of c.args.found.now.r) (g.M.Words.words c.args.memory.now)
    (view_of c.popped-regs.result.r) c.args.segment c.in-Leave.is c.requires.allowed c.popped-regs.ensures).link

pub returns-in-Enter : goal.returns-in-Enter
returns-in-Enter g c = λ block.
    own_effect-at c.args.service Enter c.args.value (view_of c.args.found.now.r) (g.M.Words.words c.args.memory.now)
    (view_of c.popped-regs.result.r) c.args.segment block _ c.in-Enter.is c.popped-regs.ensures c.enter.ensures

pub returns-in-Leave : goal.returns-in-Leave
returns-in-Leave g c = λ block.
    own_effect-at c.args.service Leave c.args.value (view_of c.args.found.now.r) (g.M.Words.words c.args.memory.now)
    (view_of c.popped-regs.result.r) c.args.segment block _ c.in-Leave.is c.popped-regs.ensures c.leave.ensures

pub returns-in-StoreWord : goal.returns-in-StoreWord
returns-in-StoreWord g c = λ block.
    own_effect-at c.args.service StoreWord c.args.value (view_of c.args.found.now.r) (g.M.Words.words c.args.memory.now)
    (view_of c.popped-regs.result.r) c.args.segment block _ c.in-StoreWord.is c.popped-regs.ensures c.mark-in-StoreWord.ensures

pub returns-in-StoreByte : goal.returns-in-StoreByte
returns-in-StoreByte g c = λ block.
    own_effect-at c.args.service StoreByte c.args.value (view_of c.args.found.now.r) (g.M.Words.words c.args.memory.now)
    (view_of c.popped-regs.result.r) c.args.segment block _ c.in-StoreByte.is c.popped-regs.ensures c.mark-in-StoreByte.ensures

pub returns-in-Emit : goal.returns-in-Emit
returns-in-Emit g c = λ block.
    own_effect-at c.args.service Emit c.args.value (view_of c.args.found.now.r) (g.M.Words.words c.args.memory.now)
    (view_of c.popped-regs.result.r) c.args.segment block _ c.in-Emit.is c.popped-regs.ensures c.emit.ensures
