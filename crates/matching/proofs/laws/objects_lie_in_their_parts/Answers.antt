use Rattle.std.specs.Prelude.{length}
use Rattle.matching.proofs.Lying.{variables_lie, locals_lie}
use Rattle.matching.proofs.laws.objects_lie_in_their_parts.Goals as goal

pub returns-clause-variables : goal.returns-clause-variables
returns-clause-variables c core next s made =
    variables_lie core (c.scalars_fit.ensures core.structs) (c.scalars_rise.ensures core.structs)
    (c.stamps_lie_behind.ensures core) next s made

pub returns-clause-locals : goal.returns-clause-locals
returns-clause-locals c core next s made =
    locals_lie core (c.scalars_fit.ensures core.structs) (c.scalars_rise.ensures core.structs) (length core.globals) next s.calls
    made.calls
