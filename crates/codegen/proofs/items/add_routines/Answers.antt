use Rattle.codegen.specs.Placing.{routine_words}
use Rattle.codegen.proofs.Turns.{adds_more, routines_turn}
use Rattle.codegen.proofs.items.add_routines.Goals as goal

pub loop-which-preserved : goal.loop-which-preserved
loop-which-preserved c =
    adds_more _ _ _ _ _ _ c.loop-which.invariant c.in_ok-add_routine.ensures
    (routines_turn (routine_words c.args.routines.now) c.args.all.now c.loop-which.which-index _ c.loop-which-test.true)
