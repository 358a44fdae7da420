use Rattle.std.proofs.Common.{refl, subst}
use Rattle.base16.specs.Memory.{words_of}
use Rattle.board_map.specs.Map.{count_of}
use Rattle.ideal430.specs.Shown.{effect_shown}
use Rattle.services.specs.Serving.{Acts}
use Rattle.services.proofs.Commits.{acted-cut, acted-settled, due-is}
use Rattle.services.proofs.acting.act.Goals as goal

-- what was due is what the service's effect makes due, and its stores, mark and commit are the whole
pub returns-in-Ok-clause-acts : goal.returns-in-Ok-clause-acts
returns-in-Ok-clause-acts g c =
    let made = c.in-Ok.ensures.made in
    subst (λ b. Acts (effect_shown c.args.deed.now) b c.args.regs.now.r (words_of c.args.fram.now.words) c.args.work.now
    (g.W.World.state c.args.world.now)
    c.settle.result (words_of c.settle.new.fram.words) c.settle.new.work (g.W.World.state c.settle.new.world))
    (due-is c.args.deed.now c.args.work.now (g.W.World.state c.args.world.now) (g.W.World.state c.make_all.new.world)
    (count_of (words_of c.args.fram.now.words)) _ _ c.spent-before.result c.due-is_due.result
    made.takes refl made.count c.spent-before.ensures.value c.due-is_due.ensures)
    (acted-settled _ (effect_shown c.args.deed.now) c.due-is_due.result c.args.regs.now.r _ _ _ c.args.work.now
    c.count_mark.new.work _ _ _ _ _ made c.count_mark.ensures c.settle.ensures.settles)

pub returns-in-Err-clause-acts : goal.returns-in-Err-clause-acts
returns-in-Err-clause-acts g c =
    acted-cut _ _ (effect_shown c.args.deed.now) _ c.args.regs.now.r _ _ c.args.work.now _ _ _ c.in-Err.ensures.made
