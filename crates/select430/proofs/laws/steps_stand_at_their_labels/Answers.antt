use Rattle.placed430.proofs.Assembled.{placed, part_size}
use Rattle.select430.specs.Laying.{all_items}
use Rattle.select430.proofs.Standing.{stands}
use Rattle.select430.proofs.laws.steps_stand_at_their_labels.Goals as goal

pub returns : goal.returns
returns c = λ ir front back top leaves words m is g function p step eg ep.
    stands ir front back top leaves g function p step eg ep m (placed (all_items ir front back) words m is) (part_size (all_items ir front back))
