use Rattle.std.proofs.Common.{◌∙◌, refl, arith, slice_index_or}
use Rattle.core430.proofs.StepLemmas.{odd_step, no_step, fetched_step}
use Rattle.core430.proofs.machine.step.Goals as goal

pub returns-then-pc-ne0-clause-is : goal.returns-then-pc-ne0-clause-is
returns-then-pc-ne0-clause-is g c = odd_step _ _ _ (slice_index_or c.args.regs.now.r 0 0) refl c.if-pc-ne0.true

pub returns-in-None-clause-is : goal.returns-in-None-clause-is
returns-in-None-clause-is g c = no_step _ _ _ (slice_index_or c.args.regs.now.r 0 0) refl (omega arith) c.in-None.ensures

pub returns-in-Some-clause-is : goal.returns-in-Some-clause-is
returns-in-Some-clause-is g c = c.execute.ensures.is ∙ fetched_step _ _ _ (slice_index_or c.args.regs.now.r 0 0) c.in-Some.ready.instr refl (omega arith) c.in-Some.ensures
