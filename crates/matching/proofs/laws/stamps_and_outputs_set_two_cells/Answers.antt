use Rattle.matching.proofs.Outside.{stamp_covered, output_covered}
use Rattle.matching.proofs.laws.stamps_and_outputs_set_two_cells.Goals as goal

pub returns-clause-stamp : goal.returns-clause-stamp
returns-clause-stamp c core =
    stamp_covered core (c.scalars_fit.ensures core.structs) (c.scalars_rise.ensures core.structs) c.frames_lie_apart.ensures
    (c.stamps_lie_behind.ensures core)

pub returns-clause-output : goal.returns-clause-output
returns-clause-output c core =
    output_covered core (c.scalars_fit.ensures core.structs) (c.scalars_rise.ensures core.structs) c.frames_lie_apart.ensures
    (c.stamps_lie_behind.ensures core)
