-- A copy of a number is that number, so the vector holds the number that it was filled with.
use Rattle.fram.proofs.BlankLemmas.{words_of-zeros}
use Rattle.fram.proofs.memory.Fram.blank.Goals as goal

pub returns-clause-words : goal.returns-clause-words
returns-clause-words c = c.in_ok-vec.ensures.items_if_clones_equal (λ y e. e)

pub returns-clause-memory : goal.returns-clause-memory
returns-clause-memory c = λ a. words_of-zeros c.in_ok-vec.field-0.items 32768 a
    (c.in_ok-vec.ensures.items_if_clones_equal (λ y e. e))
