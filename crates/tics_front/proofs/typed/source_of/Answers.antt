-- A rule that the tree breaks refuses the source.
use Rattle.std.proofs.Common.{◌≡◌, Err, ap}
use Rattle.tics_front.specs.declared.tree.FrontErr.TheVariants.{Refused}
use Rattle.tics_front.proofs.TypedLaws.{broken_is_refused}
use Rattle.tics_front.proofs.typed.source_of.Goals as goal

pub returns-in-Err-typed_of-clause-refused : goal.returns-in-Err-typed_of-clause-refused
returns-in-Err-typed_of-clause-refused c = λ fault e.
    let same : c.in-Err-typed_of.error ≡ Refused fault = cc e in
    broken_is_refused c.args.source.now c.in-Ok.tree c.get.result.now fault c.in-Ok.ensures.ok c.get.ensures
    (c.in-Err-typed_of.ensures.refused fault (ap Err same))
