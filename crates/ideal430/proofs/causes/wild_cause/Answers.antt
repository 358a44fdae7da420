use Rattle.std.proofs.Common.{◌≡◌, ◌∙◌, sym, true}
use Rattle.ideal430.specs.Service.{has_stack}
use Rattle.core430.specs.Registers.{view_of}
use Rattle.ideal430.specs.declared.service.Service.TheVariants.{Enter, Leave}
use Rattle.ideal430.proofs.Refusing.{wild_of-own}
use Rattle.ideal430.proofs.causes.wild_cause.Goals as goal

pub returns-in-Enter : goal.returns-in-Enter
returns-in-Enter g c = λ block.
    let stack : has_stack c.args.segment (view_of c.args.regs.now.r 1) ≡ true = sym c.stands.ensures ∙ c.if-not-stands.false in
    wild_of-own _ Enter (view_of c.args.regs.now.r) (g.M.Words.words c.args.memory.now) c.args.segment block _ _
    c.where_wild.ensures stack c.in-Enter.is (c.enter_is_wild.ensures (g.M.Words.words c.args.memory.now) block)

pub returns-in-Leave : goal.returns-in-Leave
returns-in-Leave g c = λ block.
    let stack : has_stack c.args.segment (view_of c.args.regs.now.r 1) ≡ true = sym c.stands.ensures ∙ c.if-not-stands.false in
    wild_of-own _ Leave (view_of c.args.regs.now.r) (g.M.Words.words c.args.memory.now) c.args.segment block _ _
    c.where_wild-in-Leave.ensures stack c.in-Leave.is (c.leave_is_wild.ensures block)
