use Rattle.std.proofs.Common.{◌∙◌, arith}
use Rattle.core430.specs.Registers.{view_of}
use Rattle.run430.proofs.Stopping.{went_on, stopped, refused_at}
use Rattle.run430.proofs.running.run.Goals as goal

pub loop-left-preserved : goal.loop-left-preserved
loop-left-preserved g c =
    let i = c.loop-left.invariant in
    (omega (arith, i.0), went_on _ _ c.args.n c.loop-left.left _ _ _ i.0 c.loop-left-test.true i.1 i.2 c.in-Next.ensures.is, c.step.ensures.kept ∙ i.2, c.step.ensures.lender ∙ i.3, c.step.ensures.aside ∙ i.4)

pub returns-in_default : goal.returns-in_default
returns-in_default g c =
    let i = c.loop-left.invariant in
    record {
      is = stopped _ _ c.args.n c.loop-left.left _ _ _ _ c.step.result c.in_default.not-Next i.0 c.loop-left-test.true i.1 i.2 c.step.ensures.is;
      wild = refused_at _ (λ x. view_of x.r) _ _ c.args.n c.loop-left.left _ c.step.new.regs c.loop-left.regs _ _ c.step.result i.0 c.loop-left-test.true i.1 i.2 c.step.ensures.is c.step.ensures.wild_registers c.step.ensures.wild_memory;
      kept = c.step.ensures.kept ∙ i.2;
      lender = c.step.ensures.lender ∙ i.3;
      aside = c.step.ensures.aside ∙ i.4;
    }
