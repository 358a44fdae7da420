use Rattle.codegen.proofs.Turns.{adds_more, words_turn}
use Rattle.codegen.proofs.adding.add_words.Goals as goal

pub loop-word-preserved : goal.loop-word-preserved
loop-word-preserved c =
    adds_more _ _ _ _ _ _ c.loop-word.invariant c.in_ok-add.ensures
    (words_turn c.args.words.now c.loop-word.word-index _ c.loop-word-test.true)
