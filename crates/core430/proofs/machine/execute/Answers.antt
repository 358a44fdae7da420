use Rattle.std.proofs.Common.{◌*◌, ◌∙◌, refl, slice_index_or}
use Rattle.core430.specs.Registers.{view_of}
use Rattle.core430.proofs.StepLemmas.{executed}
use Rattle.core430.proofs.machine.execute.Goals as goal

pub returns-clause-is : goal.returns-clause-is
returns-clause-is g c =
    c.finish.ensures.is
    ∙ executed _ _ _ (view_of c.set.new.regs.r) (slice_index_or c.args.regs.now.r 0 0) (2 * c.args.ready.len) c.args.ready.instr _ refl c.args.ready.size c.set.ensures c.perform-change.ensures.value
