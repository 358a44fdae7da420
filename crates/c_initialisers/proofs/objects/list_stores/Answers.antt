use Rattle.std.proofs.Common.{◌≡◌}
use Rattle.std.proofs.lemmas.Result.{err_from_is_err_and}
use Rattle.c_initialisers.proofs.Declaring.{list_made, list_stopped}
use Rattle.c_initialisers.proofs.objects.list_stores.Goals as goal

pub returns-in_err-puts : goal.returns-in_err-puts
returns-in_err-puts c =
    let p = err_from_is_err_and c.from_residual.result c.from_residual.ensures.1 in
    rw (p.1, p.2) (list_stopped c.args.env.now c.args._line c.args.ty.now c.args.list.now c.in_err-puts.field-0.0
    c.requires.is_list c.requires.lawful c.in_err-puts.ensures)

pub returns : goal.returns
returns c =
    let structs : c.as_slice.result.now ≡ c.args.env.now.structs = c.as_slice.ensures in
    let slots : c.as_slice-2.result.now ≡ c.in_ok-slots.slots = c.as_slice-2.ensures in
    list_made c.args.env.now c.args._line c.args.ty.now c.args.list.now c.in_ok-puts.puts c.in_ok-slots.slots
    c.in_ok-stores.field-0 c.requires.is_list c.requires.lawful c.in_ok-puts.ensures (rw (← structs) c.in_ok-slots.ensures)
    (rw (← slots) c.in_ok-stores.ensures)
