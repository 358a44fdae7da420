use Rattle.codegen.proofs.Ready.{image_simulates}
use Rattle.codegen.proofs.laws.images_simulate_their_programs.Goals as goal

pub returns : goal.returns
returns c routine core ir code program =
    image_simulates routine core ir code program (c.scalars_fit.ensures core.structs) (c.scalars_rise.ensures core.structs)
    (c.scalars_are_aligned.ensures core.structs) (c.sizes_are_even.ensures core.structs) c.frames_lie_apart.ensures
    (c.stamps_lie_behind.ensures core)
