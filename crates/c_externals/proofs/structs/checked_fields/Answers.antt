use Rattle.c_externals.proofs.StructLaws.{checked_stops}
use Rattle.c_externals.proofs.structs.checked_fields.Goals as goal

pub returns-in-Some : goal.returns-in-Some
returns-in-Some c =
    checked_stops c.args.env.now c.args.source.now c.in_ok-made.made c.as_slice.result.now c.in_ok-struct_rule.field-0 c.in-Some.rule
    c.broken.result c.in_ok-made.ensures c.as_slice.ensures c.in_ok-struct_rule.ensures c.in-Some.is c.broken.ensures
