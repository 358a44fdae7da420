use Rattle.report_state.proofs.Rows.{local_is}
use Rattle.report_state.proofs.places.Places.local_address.Goals as goal

pub returns-clause-address : goal.returns-clause-address
returns-clause-address c =
    local_is c.args.self.now.core.now c.args.call.now c.in-Some.function.now c.args.at c.from.result c.in_ok-offset.offset
    c.as_slice-structs.result.now c.in-Some.ensures c.as_slice-structs.ensures c.from.ensures c.in_ok-offset.ensures.offset
