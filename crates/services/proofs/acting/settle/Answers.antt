use Rattle.std.proofs.Common.{arith}
use Rattle.base16.specs.Memory.{words_of}
use Rattle.services.proofs.Commits.{settled-none, settled-done, settled-off}
use Rattle.services.proofs.acting.settle.Goals as goal

-- no block is open: its length is 0, so there is no entry of the block log to ask about
pub commit-requires-clause-block : goal.commit-requires-clause-block
commit-requires-clause-block g c = λ i h. let z = c.requires.closed.length in absurd (omega arith)

pub returns-in-Ok-clause-settles : goal.returns-in-Ok-clause-settles
returns-in-Ok-clause-settles g c =
    let r = c.room-log.ensures in
    settled-done c.args.is_due _ c.args.regs.now.r (words_of c.args.fram.now.words)
    (words_of c.commit.new.fram.words) c.args.work.now c.commit.new.work _ _
    c.if-is_due.true (omega arith) c.in-Ok.ensures.ticks c.in-Ok.ensures.work c.in-Ok.ensures.committed
    c.in-Ok.ensures.no_entries c.commit.ensures.past
    c.commit.ensures.well_formed c.commit.ensures.lawful

pub returns-in-Err-clause-settles : goal.returns-in-Err-clause-settles
returns-in-Err-clause-settles g c =
    settled-off c.args.is_due _ c.args.regs.now.r (words_of c.args.fram.now.words)
    (words_of c.commit.new.fram.words) c.args.work.now c.commit.new.work _ _
    c.if-is_due.true c.in-Err.ensures.ticks c.in-Err.ensures.off c.in-Err.ensures.entries c.commit.ensures.past
    c.commit.ensures.well_formed c.commit.ensures.lawful

pub returns-else-is_due-clause-settles : goal.returns-else-is_due-clause-settles
returns-else-is_due-clause-settles g c =
    settled-none c.args.is_due c.args.regs.now.r
    (words_of c.args.fram.now.words) c.args.work.now _ c.if-is_due.false c.requires.well_formed c.clock-clock.ensures.lawful
