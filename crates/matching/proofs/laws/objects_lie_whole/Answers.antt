use Rattle.matching.proofs.Spacing.{lie_whole}
use Rattle.matching.proofs.laws.objects_lie_whole.Goals as goal

pub returns : goal.returns
returns c core next s =
    lie_whole core (c.scalars_fit.ensures core.structs) (c.sizes_are_even.ensures core.structs) c.frames_lie_apart.ensures
    (c.stamps_lie_behind.ensures core) next s
