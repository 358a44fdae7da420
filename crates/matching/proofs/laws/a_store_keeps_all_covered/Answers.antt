use Rattle.matching.proofs.Whole.{store_covered}
use Rattle.matching.proofs.laws.a_store_keeps_all_covered.Goals as goal

pub returns : goal.returns
returns c core =
    store_covered core (c.scalars_fit.ensures core.structs) (c.scalars_rise.ensures core.structs) c.frames_lie_apart.ensures
    (c.stamps_lie_behind.ensures core)
