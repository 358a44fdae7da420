use Rattle.matching.proofs.Lying.{laid_made}
use Rattle.matching.proofs.laws.objects_share_no_byte.Goals as goal

pub returns : goal.returns
returns c core next s made =
    laid_made core (c.scalars_fit.ensures core.structs) (c.scalars_rise.ensures core.structs) c.frames_lie_apart.ensures next
    s made
