use Rattle.std.proofs.Common.{◌≡◌, Err, refl}
use Rattle.std.proofs.lemmas.Result.{err_from_is_err_and}
use Rattle.c_types.proofs.program.check.Goals as goal
use Rattle.c_types.proofs.Turns.{checked_is, checked_stops}

pub returns : goal.returns
returns c =
    checked_is c.args.tree.now c.first_undefined.result c.in_ok-draft.draft c.in_ok-core.core c.in_ok-numbered.field-0
    c.in_ok-draft.ensures c.first_undefined.ensures c.in_ok-core.ensures c.in_ok-numbered.ensures

pub returns-in_err-core : goal.returns-in_err-core
returns-in_err-core c =
    let p = err_from_is_err_and c.from_residual-in_err-core.result c.from_residual-in_err-core.ensures.1 in
    let told : c.from_residual-in_err-core.result ≡ Err c.in_err-core.field-0.0 = rw (p.1, p.2) refl in
    checked_stops c.args.tree.now c.first_undefined.result c.in_ok-draft.draft c.in_err-core.field-0.0
    c.from_residual-in_err-core.result c.in_ok-draft.ensures c.first_undefined.ensures c.in_err-core.ensures told
