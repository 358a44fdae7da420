use Rattle.std.proofs.Common.{refl}
use Rattle.cells430.specs.Stretch.{outside}
use Rattle.cells430.proofs.Services.{turns, checkpoints, stores16, stores8, senses, sense_lacks}
use Rattle.cells430.proofs.Outputs.{emits, emit_full}
use Rattle.cells430.proofs.laws.services_by_cells.Goals as goal

pub returns-clause-turn : goal.returns-clause-turn
returns-clause-turn c = λ x h here.
    turns x.code x.lo x.hi x.segment x.sp x.pointers h.grounded x.cells h.shape x.regs x.memory x.settled
    (outside x.marks x.left) x.meter h.facts h.words here h.stack

pub returns-clause-checkpoint : goal.returns-clause-checkpoint
returns-clause-checkpoint c = λ x h here.
    checkpoints x.code x.lo x.hi x.segment x.sp x.pointers h.grounded x.cells h.shape x.regs x.memory x.settled
    (outside x.marks x.left) x.meter h.facts h.words here h.stack

pub returns-clause-word : goal.returns-clause-word
returns-clause-word c = λ x old h here may cell.
    stores16 x.code x.lo x.hi x.segment x.sp x.pointers h.grounded x.cells h.shape x.regs x.memory x.settled
    x.marks x.left x.meter (x.regs 14) old h.facts h.words here h.stack refl may cell

pub returns-clause-byte : goal.returns-clause-byte
returns-clause-byte c = λ x old h here may cell.
    stores8 x.code x.lo x.hi x.segment x.sp x.pointers h.grounded x.cells h.shape x.regs x.memory x.settled
    x.marks x.left x.meter (x.regs 14) old h.facts h.words here h.stack refl may cell

pub returns-clause-sense : goal.returns-clause-sense
returns-clause-sense c = λ x value rest h here few small next.
    senses x.code x.lo x.hi x.segment x.sp x.pointers h.grounded x.cells h.shape x.regs x.memory x.settled
    (outside x.marks x.left) (x.regs 15) value rest x.meter h.facts h.words here h.stack refl few small next

pub returns-clause-missing : goal.returns-clause-missing
returns-clause-missing c = λ x h here few lacks.
    sense_lacks x.code x.lo x.hi x.segment x.sp x.pointers h.grounded x.cells h.shape x.regs x.memory x.settled
    (outside x.marks x.left) (x.regs 15) x.meter h.facts h.words here h.stack refl few lacks

pub returns-clause-output : goal.returns-clause-output
returns-clause-output c = λ x n old h here length room cell.
    emits x.code x.lo x.hi x.segment x.sp x.pointers h.grounded x.cells h.shape x.regs x.memory x.settled
    x.marks x.left x.meter n old h.facts h.words here h.stack length room cell

pub returns-clause-full : goal.returns-clause-full
returns-clause-full c = λ x h here length.
    emit_full x.code x.lo x.hi x.segment x.sp x.pointers h.grounded x.cells h.shape x.regs x.memory x.settled
    (outside x.marks x.left) x.meter h.facts h.words here h.stack length
