-- A copy of a number is that number, so the vector holds the number that it was filled with.
use Rattle.ideal430.proofs.memory.Ram.new.Goals as goal

pub returns : goal.returns
returns c = c.in_ok-vec.ensures.items_if_clones_equal (λ y e. e)
